use Rattle.std.proofs.Common.{◌≡◌, ℕ, false, List, ◌++◌, length, ap, ◌∙◌, arith}
use Rattle.forms.specs.Marks.{numeral, digit_first, number, number_at}
use Rattle.forms.proofs.Numbers.{View, no_number, zero_led, a_number, view, number_numeral}
use Rattle.forms.proofs.numerals_only.Goals as goal

by_view : (cs : List ℕ) → View cs → (v n : ℕ) → number_at cs ≡ number v n → (t : List ℕ) × (cs ≡ numeral v ++ t) × (n ≡ length (numeral v)) × (digit_first t ≡ false)
by_view _ (no_number cs d e) v n h = let z : ◌≡◌ {A = ℕ} 0 1 = cc in absurd (omega arith)
by_view _ (zero_led d ds y e) v n h = let z : ◌≡◌ {A = ℕ} 0 1 = cc in absurd (omega arith)
by_view _ (a_number w t d) v n h =
    let e = number_numeral w t d in
    let same : w ≡ v = cc in
    let long : n ≡ length (numeral w) = cc in
    (t, ap (λ x. numeral x ++ t) same, long ∙ ap (λ x. length (numeral x)) same, d)

pub returns : goal.returns
returns c = λ cs. by_view cs (view cs)
