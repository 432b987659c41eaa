-- What the search over pairs says of the net. Assumes nothing.
use Rattle.std.proofs.Common.{◌≡◌, ℕ, ◌<◌, Bool, true, false, cond, ◌⊎◌, List, [], ◌∷◌, map, length, get_or, ℤ, pos, ◌+ℤ◌, sym, refl, ap, ◌∙◌, inl, inr, subst, Ok, Err, Result, arith}
use lib.Signed.{lt_z}
use borrow.Author.Differences.{le_out, lt_out, same_in}
use Rattle.std.proofs.lemmas.Bool.{false≢true, true≢false}
use Rattle.rules.specs.Net.{Net, Sound}
use Rattle.rules.specs.Rules.{SomePace}
use Rattle.rules.specs.Steps.{Step, leads_from, leads_to, shares, time, shares_of, time_of, PairAbove, PairCircuit, PairAtMost}
use Rattle.rules.proofs.Existence.{pair_starts_allow_lem}
use Rattle.lengths.specs.Models.{more_pair, below_pair}
use Rattle.search.specs.declared.Edge.{Edge}
use Rattle.search.specs.Terms.{ends, EdgeChain, total, EdgeCircuit, LeastStarts}
use Rattle.std.specs.Result.{is_err}
use Rattle.std.specs.Ordering.{ordering_then, is_lt, int_cmp}
use Rattle.nets.specs.declared.sound.SoundNet.{SoundNet}
use Rattle.nets.specs.Views.{of_net}
use Rattle.nets.proofs.Alone.{good}
use Rattle.timing.specs.Edges.{edges_of, pair, Found}
use Rattle.timing.specs.Pacing.{pair_of}
use Rattle.timing.proofs.Orders.{less, no_less, pair_order}
use Rattle.timing.proofs.Bridge.{step_at, begins_at, ends_at, lasts_at, number, circuit_as}

abbrev no_pair : ℤ × ℤ
no_pair = (pos 0, pos 0)

-- The order of pairs, taken apart

first_or_second : (p q r : Bool) → cond p true (cond q false r) ≡ true → (p ≡ true) ⊎ ((p ≡ false) × (q ≡ false) × (r ≡ true))
first_or_second true q r e = inl refl
first_or_second false true r e = absurd (false≢true e)
first_or_second false false r e = inr (refl, refl, e)

neither : (p q r : Bool) → cond p true (cond q false r) ≡ false → (q ≡ true) ⊎ ((p ≡ false) × (q ≡ false) × (r ≡ false))
neither true q r e = absurd (true≢false e)
neither false true r e = inl refl
neither false false r e = inr (refl, refl, e)

same : (a b : ℤ) → lt_z a b ≡ false → lt_z b a ≡ false → a ≡ b
same a b e f = same_in a b (omega (arith, le_out b a (no_less a b e), le_out a b (no_less b a f)))

above_is : (s : ℤ) (t : ℕ) → (below_pair lt_z) no_pair (s, pos t) ≡ true → PairAbove s t
above_is s t e =
    elim (first_or_second (lt_z (pos 0) s) (lt_z s (pos 0)) (lt_z (pos 0) (pos t)) e) [
      | inl p ↦ inl (less (pos 0) s p)
      | inr (p, q, r) ↦ inr (same s (pos 0) q p, (let l = lt_out (pos 0) (pos t) (less (pos 0) (pos t) r) in omega arith))
    ]

at_most_is : (x y : ℤ × ℤ) → (below_pair lt_z) y x ≡ false → PairAtMost x.0 x.1 y.0 y.1
at_most_is x y e =
    elim (neither (lt_z y.0 x.0) (lt_z x.0 y.0) (lt_z y.1 x.1) e) [
      | inl p ↦ inl (less x.0 y.0 p)
      | inr (p, q, r) ↦ inr (same x.0 y.0 q p, no_less y.1 x.1 r)
    ]

module _ (N : Net) where
  abbrev es : List (Edge (ℤ × ℤ))
  es = edges_of N (pair N)

  total_pairs : (c : List ℕ) (a b : ℕ) → EdgeChain es a c b → total no_pair (more_pair ◌+ℤ◌) es c ≡ pair_of N (map (step_at N) c)
  total_pairs [] a b e = refl
  total_pairs (e ∷ c) a b (h, p, r) =
      let q = total_pairs c (ends es e) b r in
      let l = lasts_at N (pair N) no_pair e h in
      λ x. (more_pair ◌+ℤ◌) (l x) (q x)

  pub pair_circuit : (c : List ℕ) → EdgeCircuit no_pair (more_pair ◌+ℤ◌) (below_pair lt_z) es c → PairCircuit N
  pair_circuit c C =
      let q = total_pairs c C.closed.0 C.closed.0 C.closed.1 in (
        map (step_at N) c,
        circuit_as N (pair N) c C.closed C.once,
        above_is (shares_of N (map (step_at N) c)) (time_of N (map (step_at N) c)) (ap (λ z. (below_pair lt_z) no_pair z) (sym q) ∙ C.above),
      )

  module _ (S : Sound N) (best : List (ℤ × ℤ)) (n : ℕ) (L : LeastStarts no_pair (more_pair ◌+ℤ◌) (below_pair lt_z) n es best) where
    abbrev Suits : Step → Type 0
    Suits s = PairAtMost ((get_or best (leads_from N s) no_pair).0 +ℤ shares N s) ((get_or best (leads_from N s) no_pair).1 +ℤ pos (time N s)) (get_or best (leads_to N s) no_pair).0 (get_or best (leads_to N s) no_pair).1

    kept_at : (e : ℕ) → e < length es → Suits (step_at N e)
    kept_at e h =
        let s = step_at N e in
        let moved : (below_pair lt_z) (get_or best (leads_to N s) no_pair) ((more_pair ◌+ℤ◌) (get_or best (leads_from N s) no_pair) (pair N s)) ≡ false =
        (λ x. (below_pair lt_z) (get_or best (sym (ends_at N (pair N) e h) x) no_pair) ((more_pair ◌+ℤ◌) (get_or best (sym (begins_at N (pair N) e h) x) no_pair) (sym (lasts_at N (pair N) no_pair e h) x))) ∙ L.kept e h in
        at_most_is ((more_pair ◌+ℤ◌) (get_or best (leads_from N s) no_pair) (pair N s)) (get_or best (leads_to N s) no_pair) moved

    pub some_pace : SomePace N
    some_pace = pair_starts_allow_lem N S (λ y. (get_or best y no_pair).0) (λ y. (get_or best y no_pair).1) (number N (pair N) Suits kept_at)

-- What a search over pairs finds of a sound net
module _ (net : SoundNet) (net' : SoundNet) (same : net' ≡ net) where
  pub told_above : (r : Result (List (ℤ × ℤ)) (List ℕ)) → Found no_pair (more_pair ◌+ℤ◌) (λ x y. is_lt (ordering_then (int_cmp x.0 y.0) (int_cmp x.1 y.1))) net'.net (pair (of_net net'.net)) r → is_err r ≡ true → PairCircuit (of_net net.net)
  told_above (Ok best) f e = absurd (false≢true e)
  told_above (Err c) f e =
      let C = subst (λ below. EdgeCircuit no_pair (more_pair ◌+ℤ◌) below (edges_of (of_net net'.net) (pair (of_net net'.net))) c) pair_order f in
      subst (λ (z : SoundNet). PairCircuit (of_net z.net)) same (pair_circuit (of_net net'.net) c C)

  pub told_allowed : (r : Result (List (ℤ × ℤ)) (List ℕ)) → Found no_pair (more_pair ◌+ℤ◌) (λ x y. is_lt (ordering_then (int_cmp x.0 y.0) (int_cmp x.1 y.1))) net'.net (pair (of_net net'.net)) r → is_err r ≡ false → SomePace (of_net net.net)
  told_allowed (Ok best) f e =
      let L = subst (λ below. LeastStarts no_pair (more_pair ◌+ℤ◌) below net'.net.stations (edges_of (of_net net'.net) (pair (of_net net'.net))) best) pair_order f.0 in
      subst (λ (z : SoundNet). SomePace (of_net z.net)) same (some_pace (of_net net'.net) (good _ net'.good).sound best net'.net.stations L)
  told_allowed (Err c) f e = absurd (true≢false e)
