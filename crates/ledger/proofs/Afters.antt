-- A call that passes its own checks leads to one state. Assumes nothing.
use Rattle.std.proofs.Common.{◌≡◌, ℕ, zero, suc, ◌<◌, List, get_or, Some, sym, refl, ap, ◌∙◌, subst, inl, inr, arith}
use Rattle.std.proofs.lemmas.Bool.{cases_lt, cases_eq}
use Rattle.std.proofs.lemmas.List.{ext_get_or}
use Rattle.handover.proofs.Options.{some_same}
use Rattle.rules.specs.Net.{Net, stations}
use Rattle.rules.specs.Ranges.{Checked}
use Rattle.rules.specs.Rates.{Leads, CutOff, Rated, with_rates}
use Rattle.rates.proofs.Unique.{rates_one_lem}
use Rattle.texts.specs.NetText.{Entries}
use Rattle.ledger.specs.Calls.{Source, Setting, duration_to, stock_to, capacity_to, pace_to, Call, load, open_link, put, close, ask, at}
use Rattle.ledger.specs.States.{net_of, unrated, Gives, with_link, with_stock, with_capacity, AfterSetting, After}
use Rattle.ledger.specs.Checks.{out_of_range, too_full, cut_off, own_checks}
use Rattle.ledger.specs.Runs.{Passes, AllPass}
use Rattle.ledger.proofs.Reading.{gives_one}
use Rattle.ledger.proofs.Numbers.{draft_checked}

-- where no station is cut off, links cannot fail to lead to all of them, and that is enough for the rates to be one list
module _ (M : Net) (none : (y : ℕ) → CutOff M y → ⊥) where
  abbrev Led : ℕ → Type 0
  Led n = (x : ℕ) → x < n → x < stations M → Leads M 0 x

  nearly : (n : ℕ) → (Led n → ⊥) → ⊥
  nearly zero k = k (λ x h s. absurd (omega arith))
  nearly (suc n) k =
      nearly n (λ J.
      let one_more : Leads M 0 n → Led (suc n) =
      λ l x h s. elim (cases_eq x n) [ inl e ↦ subst (λ z. Leads M 0 z) (sym e) l | inr ne ↦ J x (omega arith) s ] in
      elim (cases_lt n (stations M)) [
        | inl h ↦ none n (record { station = h; apart = λ l. k (one_more l); lowest = λ x l. J x l (omega arith) })
        | inr h ↦ k (λ x l s. J x (omega arith) s)
      ])

  pub rates_same : Checked M → (Z Y : List ℕ) → Rated (with_rates M Z) → Rated (with_rates M Y) → Z ≡ Y
  rates_same C Z Y R S =
      ext_get_or 0 Z Y (R.complete ∙ sym S.complete) (λ i h.
      elim (cases_eq (get_or Z i 0) (get_or Y i 0)) [
        | inl e ↦ e
        | inr ne ↦ absurd (nearly (stations M) (λ J. ne (ap (λ z. get_or z i 0) (rates_one_lem M C (λ y b. J y b b) Z Y R S))))
      ])

pub load_one : (N : Net) (s : Source) (n : ℕ) (e : Entries) → Gives s e → Passes N (load s n) out_of_range → Passes N (load s n) too_full → Passes N (load s n) cut_off
    → (Z Y : List ℕ) → Rated (net_of e Z) → Rated (net_of e Y) → Z ≡ Y
load_one N s n e g range room joins Z Y R S =
    rates_same (unrated e) (λ y c. joins (at y) (e, y, g, c, refl)) (draft_checked N s n e _ g range room) Z Y R S

setting_one : (N : Net) (s : Setting) (K L : Net) → AfterSetting N s K → AfterSetting N s L → K ≡ L
setting_one N (duration_to i d) K L a b = a ∙ sym b
setting_one N (stock_to k u) K L (l, o, a) (m, q, b) = a ∙ ap (λ z. with_link N k (Some (with_stock z u))) (some_same l m (sym o ∙ q)) ∙ sym b
setting_one N (capacity_to k c) K L (l, o, a) (m, q, b) = a ∙ ap (λ z. with_link N k (Some (with_capacity z c))) (some_same l m (sym o ∙ q)) ∙ sym b
setting_one N (pace_to A B) K L a b = a ∙ sym b

-- of a load three checks matter
pub after_same : (N : Net) (c : Call) (K L : Net) → Passes N c out_of_range → Passes N c too_full → Passes N c cut_off → After N c K → After N c L → K ≡ L
after_same N (load s n) K L range room joins (e, Z, g, R, a) (d, Y, f, S, b) =
    let same = gives_one s e d g f in
    a ∙ ap (net_of e) (load_one N s n e g range room joins Z Y R (subst (λ z. Rated (net_of z Y)) (sym same) S)) ∙ ap (λ z. net_of z Y) same ∙ sym b
after_same N (open_link k l n) K L range room joins a b = a ∙ sym b
after_same N (close k) K L range room joins a b = a ∙ sym b
after_same N (put s n) K L range room joins a b = setting_one N s K L a b
after_same N (ask q) K L range room joins a b = a ∙ sym b

pub after_one : (N : Net) (c : Call) (K L : Net) → AllPass N c (own_checks c) → After N c K → After N c L → K ≡ L
after_one N (load s n) K L P a b = after_same N (load s n) K L P.0 P.1.0 P.1.1.0 a b
after_one N (open_link k l n) K L P a b = a ∙ sym b
after_one N (close k) K L P a b = a ∙ sym b
after_one N (put s n) K L P a b = setting_one N s K L a b
after_one N (ask q) K L P a b = a ∙ sym b
