-- Ranges that compute. Assumes nothing.
use Rattle.std.proofs.Common.{◌≡◌, ℕ, Bool, true, false, cond, ◌||◌, ltb, List, [], ◌∷◌, Some, None, Option, sym, refl, inl, inr}
use Rattle.std.proofs.lemmas.Bool.{or_cases, or_parts, ltb-true, ltb-false}
use Rattle.handover.proofs.Options.{none_some, some_same}
use Rattle.ledger.specs.Ranges.{Number, Out, FirstOut}
use Rattle.ledger.proofs.Numbers.{Within, AllIn, not_out}

-- the first number out of range
abbrev out_test : Number → Bool
out_test n = ltb n.value n.low || ltb n.high n.value

abbrev pub out_at : List Number → Option ℕ
out_at [] = None
out_at (n ∷ ns) = cond (out_test n) (Some n.which) (out_at ns)

out_yes : (n : Number) → out_test n ≡ true → Out n
out_yes n e = elim (or_cases (ltb n.value n.low) (ltb n.high n.value) e) [ inl f ↦ inl (ltb-true _ _ f) | inr f ↦ inr (ltb-true _ _ f) ]

out_no : (n : Number) → out_test n ≡ false → Within n
out_no n e = let h = or_parts (ltb n.value n.low) (ltb n.high n.value) e in (ltb-false _ _ h.0, ltb-false _ _ h.1)

found : (n : Number) (ns : List Number) (w : ℕ) → (out_at ns ≡ Some w → FirstOut ns w) → (b : Bool) → out_test n ≡ b → cond b (Some n.which) (out_at ns) ≡ Some w → FirstOut (n ∷ ns) w
found n ns w h true e f = inl (out_yes n e, sym (some_same n.which w f))
found n ns w h false e f = inr (not_out n (out_no n e), h f)

pub out_found : (ns : List Number) (w : ℕ) → out_at ns ≡ Some w → FirstOut ns w
out_found [] w e = none_some w e
out_found (n ∷ ns) w e = found n ns w (out_found ns w) (out_test n) refl e

fine : (n : Number) (ns : List Number) → (out_at ns ≡ None → AllIn ns) → (b : Bool) → out_test n ≡ b → cond b (Some n.which) (out_at ns) ≡ None → AllIn (n ∷ ns)
fine n ns h true e f = absurd (none_some n.which (sym f))
fine n ns h false e f = (out_no n e, h f)

pub in_tested : (ns : List Number) → out_at ns ≡ None → AllIn ns
in_tested [] e = tt
in_tested (n ∷ ns) e = fine n ns (in_tested ns) (out_test n) refl e
