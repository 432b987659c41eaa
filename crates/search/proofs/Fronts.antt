-- How the lowest place is kept. Assumes nothing.
use Rattle.std.proofs.Common.{◌≡◌, ℕ, ◌+◌, ◌<◌, ◌≤◌, ◌≢◌, List, get_or, inl, inr, arith}
use Rattle.std.proofs.lemmas.Bool.{cases_eq}
use Rattle.search.specs.declared.Edge.{Edge}
use Rattle.search.specs.Terms.{begins}

-- the lowest of the first t is still lowest with one more, or the one more is
module _ {L : Type 0} (es : List (Edge L)) (c : List ℕ) (first t first' : ℕ) (low : (s : ℕ) → s < t → begins es (get_or c first 0) ≤ begins es (get_or c s 0)) where
  pub lower : begins es (get_or c t 0) < begins es (get_or c first 0) → first' ≡ t → (s : ℕ) → s < t + 1 → begins es (get_or c first' 0) ≤ begins es (get_or c s 0)
  lower h e s k = elim (cases_eq s t) [
    | inl q ↦ rw (e, q) (omega arith)
    | inr q ↦ rw e (let ne : s ≢ t = q in let l = low s (omega arith) in omega arith)
  ]

  pub no_lower : begins es (get_or c first 0) ≤ begins es (get_or c t 0) → first' ≡ first → (s : ℕ) → s < t + 1 → begins es (get_or c first' 0) ≤ begins es (get_or c s 0)
  no_lower h e s k = elim (cases_eq s t) [
    | inl q ↦ rw (e, q) h
    | inr q ↦ rw e (let ne : s ≢ t = q in low s (omega arith))
  ]
