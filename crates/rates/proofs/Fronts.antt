-- What the numbers are after a turn, and at the end. Assumes nothing.
use Rattle.std.proofs.Common.{◌≡◌, ℕ, ◌<◌, ◌≤◌, ◌⊎◌, List, length, set, Some, None, Option, MatchOption, sym, ◌∙◌, subst, inl, inr, arith, length-set}
use Rattle.std.proofs.lemmas.Bool.{cases_eq}
use Rattle.std.proofs.lemmas.List.{get_or-set_same, get_or-set_other}
use Rattle.rules.specs.Net.{Net, stations}
use Rattle.rules.specs.Ranges.{Checked}
use Rattle.rules.specs.Rates.{Joined, CutOff}
use Rattle.rates.specs.declared.Lead.{Lead}
use Rattle.rates.specs.Reaching.{number, missing, Onward, Lowest, Reached, Led}
use Rattle.rates.proofs.Counting.{one_fewer}
use Rattle.rates.proofs.Links.{Terms, ends_of, terms_of, led_reached, led_more}
use Rattle.rates.proofs.Parts.{factor_pos, end_pos, risen}

-- one mark more
set_at : (z : List ℕ) (j v i : ℕ) → j < length z → (i ≡ j) ⊎ (i ≡ j → ⊥) → 1 ≤ v → 1 ≤ number z i → 1 ≤ number (set z j v) i
set_at z j v i h (inl e) p q = subst (λ t. 1 ≤ number (set z j v) t) (sym e) (subst (λ t. 1 ≤ t) (sym (get_or-set_same z j v 0 h)) p)
set_at z j v i h (inr e) p q = subst (λ t. 1 ≤ t) (sym (get_or-set_other z j i v 0 e)) q

module _ (N : Net) (z : List ℕ) (s : Lead) (C : Checked N) (L : Led N z) where
  inside : Onward N z (Some s) → s.to < length z
  inside (k, l, o, (way, from, to)) = let e = (ends_of N k l o s C way).1 in let few = C.few in let m = L.many in omega arith

  pub marked_led : Onward N z (Some s) → Led N (set z s.to 1)
  marked_led o =
      led_more N z (set z s.to 1) s L o (length-set z s.to 1 ∙ L.many)
      (λ i h. set_at z s.to 1 i (inside o) (cases_eq i s.to) (omega arith) h)
      (λ i e h. subst (λ t. 1 ≤ t) (get_or-set_other z s.to i 1 0 e) h)

  pub marked_fewer : Onward N z (Some s) → missing (set z s.to 1) < missing z
  marked_fewer o =
      one_fewer z (set z s.to 1) s.to (length-set z s.to 1) (λ i h. set_at z s.to 1 i (inside o) (cases_eq i s.to) (omega arith) h) (inside o) o.3.2
      (subst (λ t. 1 ≤ t) (sym (get_or-set_same z s.to 1 0 (inside o))) (omega arith))

pub cut : (N : Net) (z : List ℕ) (r : Option ℕ) → Led N z → Onward N z None → Lowest (stations N) z r → MatchOption r (Joined N) (CutOff N)
cut N z None L O h = λ y p. L.led y (h y p)
cut N z (Some y) L O (p, q, h) = record { station = p; apart = λ d. let m = led_reached N z O 0 y d L.begun in omega arith; lowest = λ x b. L.led x (h x b) }

-- one more station is reached
pub reached_fewer : (N : Net) (z z' : List ℕ) (s : Lead) → Checked N → length z ≡ 64 → Onward N z (Some s) → Reached z s z' (Some tt) → missing z' < missing z
reached_fewer N z z' s C m (k, l, o, (way, from, to)) (long, at_end, others, most) =
    one_fewer z z' s.to long (λ i h. up i h (cases_eq i s.to)) (let e = (ends_of N k l o s C way).1 in let few = C.few in omega arith) to new
  where
    t : Terms s
    t = terms_of N k l o s C way

    new : 1 ≤ number z' s.to
    new = subst (λ j. 1 ≤ j) (sym at_end) (end_pos z s t from)

    up : (i : ℕ) → 1 ≤ number z i → (i ≡ s.to) ⊎ (i ≡ s.to → ⊥) → 1 ≤ number z' i
    up i h (inl e) = subst (λ j. 1 ≤ number z' j) (sym e) new
    up i h (inr e) = risen _ _ _ (others i e) (factor_pos z s t from) h
