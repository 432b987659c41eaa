-- What the search in ticks says of the net. Assumes nothing.
use Rattle.std.proofs.Common.{◌≡◌, ℕ, ◌<◌, false, List, [], ◌∷◌, map, length, get_or, pos, ◌+ℤ◌, nat_abs, ◌<ℤ◌, sym, refl, ap, ◌∙◌, arith}
use lib.ListN.{length-map}
use lib.Signed.{lt_z}
use borrow.Author.Differences.{abs_is, sum_is_lem, le_out, same_in}
use Rattle.rules.specs.Net.{Net, Sound, stations, whole}
use Rattle.rules.specs.Rules.{Least}
use Rattle.rules.specs.Steps.{Step, Kept, Chain, leads_from, leads_to, ticks, ticks_of}
use Rattle.rules.specs.Ranges.{InRange}
use Rattle.rules.proofs.Existence.{from_inside, to_inside}
use Rattle.rules.proofs.Sizes.{chains_sized_lem}
use Rattle.rules.proofs.Chains.{bound_in, least_when_reached_lem}
use Rattle.lengths.specs.declared.Ticks.{Ticks}
use Rattle.lengths.specs.Models.{of_ticks, no_ticks, more_ticks, below_ticks}
use Rattle.search.specs.declared.Edge.{Edge}
use Rattle.search.specs.Terms.{ends, EdgeChain, total, LeastStarts, EdgeCircuit}
use Rattle.timing.specs.Edges.{edges_of, in_ticks}
use Rattle.timing.proofs.Orders.{less, no_less}
use Rattle.timing.proofs.Bridge.{step_at, begins_at, ends_at, lasts_at, has_at, number, chain_as}

module _ (N : Net) where
  abbrev es : List (Edge Ticks)
  es = edges_of N (in_ticks N)

  total_ticks : (c : List ℕ) (a b : ℕ) → EdgeChain es a c b → total no_ticks more_ticks es c ≡ of_ticks (ticks_of N (map (step_at N) c))
  total_ticks [] a b e = refl
  total_ticks (e ∷ c) a b (h, p, r) =
      let q = total_ticks c (ends es e) b r in
      let l = lasts_at N (in_ticks N) no_ticks e h in
      λ x. more_ticks (l x) (q x)

  pub above_ticks : (c : List ℕ) → EdgeCircuit no_ticks more_ticks below_ticks es c → pos 0 <ℤ ticks_of N (map (step_at N) c)
  above_ticks c C =
      let q = total_ticks c C.closed.0 C.closed.0 C.closed.1 in
      less (pos 0) (ticks_of N (map (step_at N) c)) (ap (λ z. below_ticks no_ticks z) (sym q) ∙ C.above)

  module _ (S : Sound N) (best : List Ticks) (n : ℕ) (en : stations N ≡ n) (least : LeastStarts no_ticks more_ticks below_ticks n es best)
      (starts : List ℕ) (full : length starts ≡ stations N) (are : (y : ℕ) → y < n → get_or starts y 0 ≡ nat_abs (get_or best y no_ticks).ticks) where
    start_is : (y : ℕ) → y < stations N → pos (get_or starts y 0) ≡ (get_or best y no_ticks).ticks
    start_is y h =
        let f = le_out (pos 0) (get_or best y no_ticks).ticks (no_less (get_or best y no_ticks).ticks (pos 0) (least.floor y (omega arith))) in
        same_in (pos (get_or starts y 0)) (get_or best y no_ticks).ticks (omega (arith, are y (omega arith), abs_is (get_or best y no_ticks).ticks))

    kept_at : (e : ℕ) → e < length es → Kept N (whole starts) (step_at N e)
    kept_at e h =
        let s = step_at N e in
        let hs = has_at N (in_ticks N) e h in
        let x = get_or starts (leads_from N s) 0 in
        let y = get_or starts (leads_to N s) 0 in
        let a = start_is (leads_from N s) (from_inside N S s hs) in
        let b = start_is (leads_to N s) (to_inside N S s hs) in
        let moved : lt_z (pos y) (pos x +ℤ ticks N s) ≡ false =
        (λ t. lt_z (b t) (a t +ℤ ticks N s))
        ∙ (λ t. lt_z (get_or best (sym (ends_at N (in_ticks N) e h) t) no_ticks).ticks ((get_or best (sym (begins_at N (in_ticks N) e h) t) no_ticks).ticks +ℤ (sym (lasts_at N (in_ticks N) no_ticks e h) t).ticks))
        ∙ least.kept e h in
        let l = le_out (pos x +ℤ ticks N s) (pos y) (no_less (pos y) (pos x +ℤ ticks N s) moved) in
        (bound_in 1 x y (ticks N s)).1 (omega (arith, sum_is_lem (pos x) (ticks N s)))

    length_is : (y : ℕ) (h : y < stations N) → ticks_of N (map (step_at N) (least.reached y (omega arith)).1) ≡ pos (get_or starts y 0)
    length_is y h =
        let r = least.reached y (omega arith) in
        ap (λ (z : Ticks). z.ticks) (sym (total_ticks r.1 r.0 y r.4) ∙ r.5) ∙ sym (start_is y h)

    reached : (y : ℕ) → y < stations N → (x : ℕ) × (c : List Step) × Chain N x c y × (ticks_of N c ≡ pos (get_or starts y 0))
    reached y h = let r = least.reached y (omega arith) in (r.0, map (step_at N) r.1, chain_as N (in_ticks N) r.1 r.0 y r.4, length_is y h)

    pub least_as : Least N starts
    least_as =
        let l = least_when_reached_lem N S starts full (number N (in_ticks N) (Kept N (whole starts)) kept_at) reached in
        record { fits = record { scaled = omega arith; complete = full }; keeps = l.0; least = l.1 }

    -- a start is as long as a chain of at most 63 steps
    pub start_sized : InRange N → (y : ℕ) → y < stations N → get_or starts y 0 < 10_000_000_000_000_000
    start_sized R y h =
        let r = least.reached y (omega arith) in
        let z = (chains_sized_lem N S R r.0 y (map (step_at N) r.1) (chain_as N (in_ticks N) r.1 r.0 y r.4)).ticks in
        omega (arith, r.3, length-map r.1 (step_at N), ap nat_abs (length_is y h))
