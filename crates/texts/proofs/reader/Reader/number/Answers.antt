use Rattle.std.proofs.Common.{◌≡◌, ◌+◌, ◌-◌, ◌*◌, ◌^◌, min, true, false, get_or, drop, sym, refl, ap, ◌∙◌, subst, arith}
use Rattle.std.proofs.lemmas.Bool.Decides.{nat_tests}
use Rattle.std.specs.List.{prefix_len}
use Rattle.forms.specs.Marks.{is_digit, digit_first, value_on}
use Rattle.forms.specs.Form.{broken}
use Rattle.texts.specs.Faults.{Worded}
use Rattle.texts.specs.Reading.{rest}
use Rattle.texts.proofs.Steps.{digit_here, first_here, capped_on, value_more, leading_more}
use Rattle.texts.proofs.Asked.{numbered_none, numbered_led, numbered_value}
use Rattle.texts.proofs.reader.Reader.number.Goals as goal

pub returns-in_default : goal.returns-in_default
returns-in_default c =
    let x = c.args.self.now in
    record {
      reads = numbered_none x x c.broken.result c.in_default.ensures c.broken.ensures.said c.broken.ensures.worded;
      same = refl;
    }

pub invariant_of-self : goal.invariant_of-self
invariant_of-self c = omega (arith, (digit_here c.args.self.now.at c.args.self.now.text.now c.in-Some.first c.in-Some.ensures).0)

pub returns-then-first-eq0 : goal.returns-then-first-eq0
returns-then-first-eq0 c =
    let x = c.args.self.now in
    let t = x.text.now in
    let y = c.loop-d.self in
    let e = c.broken-then-first-eq0.result in
    let h = c.broken-then-first-eq0.ensures in
    let a = digit_here x.at t c.in-Some.first c.in-Some.ensures in
    let b = digit_here y.at y.text.now c.in-Some-digit.d c.in-Some-digit.ensures in
    let p = c.loop-d.invariant.4 c.if-first-eq0.true in
    let here : digit_first (drop (x.at + 1) t) ≡ true = subst (λ n. digit_first (drop n t) ≡ true) p (subst (λ s. digit_first (drop y.at s) ≡ true) c.loop-d.invariant.0 (first_here y.at y.text.now b.0 ∙ b.1)) in
    let first : is_digit (get_or t x.at 0) ≡ true = a.1 in
    let nil : 0 ≡ get_or t x.at 0 - 48 = sym c.if-first-eq0.true ∙ a.2 in
    let zero : get_or t x.at 0 ≡ 48 = grind (arith, nat_tests) in
    let worded : Worded t e = subst (λ s. Worded s e) c.loop-d.invariant.0 h.worded in
    record { reads = numbered_led x y t refl a.0 e zero here (h.said ∙ ap broken p) worded; same = c.loop-d.invariant.0 }

pub invariant_of-self-in-Some-digit : goal.invariant_of-self-in-Some-digit
invariant_of-self-in-Some-digit c = omega (arith, (digit_here c.loop-d.self.at c.loop-d.self.text.now c.in-Some-digit.d c.in-Some-digit.ensures).0)

pub loop-d-preserved : goal.loop-d-preserved
loop-d-preserved c =
    let s = c.loop-d.self.text.now in
    let i = c.loop-d.self.at in
    let b = digit_here i s c.in-Some-digit.d c.in-Some-digit.ensures in
    let lead = leading_more s i b.0 b.1 in
    let value = value_more c.loop-d.n s i b.0 b.1 in
    let cap : min c.saturating_add-n.result (2 ^ 64 - 1) ≡ min (c.loop-d.n * 10 + (get_or s i 0 - 48)) (2 ^ 64 - 1) = omega (arith, b.2, c.saturating_mul.ensures, c.saturating_add-n.ensures) in (
      c.loop-d.invariant.0,
      omega (arith, c.saturating_add-n.ensures),
      omega (arith, lead, c.loop-d.invariant.2),
      capped_on _ _ (drop (i + 1) s) cap ∙ ap (λ k. min k (2 ^ 64 - 1)) (sym value) ∙ c.loop-d.invariant.3,
      λ z. absurd (c.if-first-eq0.false z),
    )

pub returns : goal.returns
returns c =
    let x = c.args.self.now in
    let t = x.text.now in
    let y = c.loop-d.self in
    let a = digit_here x.at t c.in-Some.first c.in-Some.ensures in
    let stop : digit_first (rest y) ≡ false = c.in_default-digit.ensures in
    let same = c.loop-d.invariant.0 in
    record {
      reads = numbered_value x y t refl a.0 c.loop-d.n a.1
          (rw same at stop)
          c.loop-d.invariant.1
          (subst (λ s. y.at + prefix_len is_digit (drop y.at s) ≡ x.at + 1 + prefix_len is_digit (drop (x.at + 1) t)) same c.loop-d.invariant.2)
          (subst (λ s. min (value_on c.loop-d.n (drop y.at s)) (2 ^ 64 - 1) ≡ min (value_on (get_or t x.at 0 - 48) (drop (x.at + 1) t)) (2 ^ 64 - 1)) same
          (c.loop-d.invariant.3 ∙ ap (λ n. min (value_on n (drop (x.at + 1) t)) (2 ^ 64 - 1)) a.2))
          (λ z. c.loop-d.invariant.4 (omega (arith, a.2, z)));
      same = same;
    }
