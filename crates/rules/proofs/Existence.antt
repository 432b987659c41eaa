-- Least starts or a circuit above zero. Assumes nothing.
use Rattle.std.proofs.Common.{◌≡◌, ℕ, suc, ◌+◌, ◌*◌, ◌<◌, ◌≤◌, ◌⊎◌, List, [], ◌∷◌, map, length, get_or, ℤ, pos, negsuc, ◌+ℤ◌, ◌≤ℤ◌, ◌<ℤ◌, sym, refl, ap, ◌∙◌, subst, inl, inr, zero-add, zero-le, mul-le-mul_left, arith}
use lib.IntN.{+ℤ_idr}
use borrow.Author.Differences.{up, down, lt_out, same_in, below_in}
use Rattle.std.proofs.lemmas.Int.{ints}
use Rattle.std.proofs.lemmas.Bool.{cases_order}
use Rattle.std.specs.List.{range_with_len}
use Rattle.std.proofs.lemmas.List.FromFn.{length-map-range_with_len, get_or-map-range_with_len}
use Rattle.rules.specs.Net.{Link, Net, stations, duration, Open, Sound, whole, at_pace_lem}
use Rattle.rules.specs.Rules.{Least, SomePace}
use Rattle.rules.specs.Steps.{Step, forward, back, own, Has, Kept, Chain, Circuit, CircuitAbove, PairCircuit, PairAbove, PairAtMost, or_else, no_link, link, leads_from, leads_to, ticks, shares, time, ticks_of, time_of, shares_of}
use Rattle.rules.specs.Theorems.{LeastOrCircuit, CircuitsDecide, PairsDecide, PairStartsAllow}
use Rattle.rules.proofs.Differences.{Is}
use Rattle.rules.proofs.Chains.{bound_in, circuit_forbids_lem, least_when_reached_lem}
use Rattle.rules.proofs.Paces.{circuit_at, sound_at, pair_at, pair_forbids_lem}
use Rattle.handover.proofs.Once.{Below, over, upto, is, once_sum, once_count, count_once}
use Rattle.rules.proofs.Potential.{Path, sum, Bad, best, height, potential}
use Rattle.rules.proofs.Listed.{all_steps, listed}

-- The ends of a step are stations

module _ (N : Net) (S : Sound N) where
  link_ends : (k : ℕ) (l : Link) → Open N k l → ((link N k).i < stations N) × ((link N k).j < stations N)
  link_ends k l e =
      let K = S.linked k l e in
      subst (λ z. (z.i < stations N) × (z.j < stations N)) (sym (ap (or_else no_link) e)) (K.from_station, K.to_station)

  pub from_inside : (s : Step) → Has N s → leads_from N s < stations N
  from_inside (forward k) (l, e) = (link_ends k l e).0
  from_inside (back k) (l, c, e, f) = (link_ends k l e).1
  from_inside (own i) h = h

  pub to_inside : (s : Step) → Has N s → leads_to N s < stations N
  to_inside (forward k) (l, e) = (link_ends k l e).1
  to_inside (back k) (l, c, e, f) = (link_ends k l e).0
  to_inside (own i) h = h

  pub chain_inside : (c : List Step) (x y : ℕ) → Chain N x c y → Below (stations N) (map (leads_to N) c)
  chain_inside [] x y e = tt
  chain_inside (s ∷ c) x y (h, e, r) = (to_inside s h, chain_inside c (leads_to N s) y r)

-- Along a chain, what is summed over the stations it leads from and over those it leads to differs by its two ends

pub ends_sum : (N : Net) (f : ℕ → ℕ) (c : List Step) (x y : ℕ) → Chain N x c y → over f (map (leads_from N) c) + f y ≡ f x + over f (map (leads_to N) c)
ends_sum N f [] x y e = omega (arith, ap f e)
ends_sum N f (s ∷ c) x y (h, e, r) = omega (arith, ap f e, ends_sum N f c (leads_to N s) y r)

-- A path of the net turned round, as a chain

abbrev Walk : Net → ℕ → List Step → ℕ → Type 0
Walk N = Path (Has N) (leads_to N) (leads_from N) (ticks N)

abbrev onto : List Step → List Step → List Step
onto [] d = d
onto (s ∷ c) d = onto c (s ∷ d)

onto_chain : (N : Net) (c d : List Step) (x y z : ℕ) → Walk N x c z → Chain N x d y → Chain N z (onto c d) y
onto_chain N [] d x y z e p = subst (λ k. Chain N k d y) e p
onto_chain N (s ∷ c) d x y z (h, e, r) p = onto_chain N c (s ∷ d) (leads_from N s) y z r (h, refl, subst (λ k. Chain N k d y) (sym e) p)

onto_ticks : (N : Net) (c d : List Step) → ticks_of N (onto c d) ≡ sum (Has N) (leads_to N) (leads_from N) (ticks N) c +ℤ ticks_of N d
onto_ticks N [] d = omega (arith, ints)
onto_ticks N (s ∷ c) d = let h = onto_ticks N c (s ∷ d) in omega (arith, ints)

onto_sum : (N : Net) (f : ℕ → ℕ) (c d : List Step) → over f (map (leads_to N) (onto c d)) ≡ over f (map (leads_to N) c) + over f (map (leads_to N) d)
onto_sum N f [] d = omega arith
onto_sum N f (s ∷ c) d = omega (arith, onto_sum N f c (s ∷ d))

walk_sum : (N : Net) (f : ℕ → ℕ) (c : List Step) (x y : ℕ) → Walk N x c y → over f (map (leads_to N) c) + f y ≡ f x + over f (map (leads_from N) c)
walk_sum N f [] x y e = omega (arith, ap f e)
walk_sum N f (s ∷ c) x y (h, e, r) = omega (arith, ap f e, walk_sum N f c (leads_from N s) y r)

circuit_of : (N : Net) → Bad (Has N) (leads_to N) (leads_from N) (ticks N) → CircuitAbove N
circuit_of N b =
    let c = b.round in (
      onto c [],
      record {
        closed = (b.at, onto_chain N c [] b.at b.at b.at b.closed refl);
        once = count_once (map (leads_to N) (onto c [])) (λ z. omega (arith, once_count (map (leads_from N) c) b.once z, onto_sum N (is z) c [], walk_sum N (is z) c b.at b.at b.closed));
      },
      (let h = onto_ticks N c [] in let k = b.above in omega (arith, ints)),
    )

not_negative : (z : ℤ) → pos 0 ≤ℤ z → z ≡ pos (up z)
not_negative (pos n) h = refl
not_negative (negsuc n) h = absurd h.le

step_in : (z x y : ℤ) (a b : ℕ) → (z +ℤ x) ≤ℤ y → x ≡ pos a → y ≡ pos b → a + 1 * up z ≤ b + 1 * down z
step_in z x y a b h e f = omega (arith, ints)

module _ (N : Net) (S : Sound N) where
  high : ℕ → ℤ
  high = height (Has N) (leads_to N) (leads_from N) (ticks N) (all_steps N) (listed N) (stations N) (from_inside N S)

  starts_of : List ℕ
  starts_of = map (λ i. up (high i)) (range_with_len 0 (stations N))

  high_low : (x : ℕ) → high x ≡ pos (up (high x))
  unfolding high
  high_low x =
      not_negative (high x) ((best (Has N) (leads_to N) (leads_from N) (ticks N) (all_steps N) (listed N) (stations N) x).most [] x refl zero-le)

  start_is : (x : ℕ) → x < stations N → high x ≡ pos (get_or starts_of x 0)
  unfolding starts_of
  start_is x h = high_low x ∙ ap pos (sym (get_or-map-range_with_len (λ i. up (high i)) 0 (stations N) x x 0 h (zero-add x)))

  reached : (y : ℕ) → y < stations N → (x : ℕ) × (c : List Step) × Chain N x c y × (ticks_of N c ≡ pos (get_or starts_of y 0))
  unfolding high
  reached y h =
      let b = best (Has N) (leads_to N) (leads_from N) (ticks N) (all_steps N) (listed N) (stations N) y in
      (b.end, onto b.path [], onto_chain N b.path [] y y b.end b.leads refl, onto_ticks N b.path [] ∙ +ℤ_idr _ ∙ start_is y h)

  least_of : ((s : Step) → Has N s → (ticks N s +ℤ high (leads_from N s)) ≤ℤ high (leads_to N s)) → Least N starts_of
  unfolding starts_of
  least_of kept =
      let full : length starts_of ≡ stations N = length-map-range_with_len (λ i. up (high i)) 0 (stations N) in
      let steps : (s : Step) → Has N s → Kept N (whole starts_of) s =
      λ s h. (bound_in 1 (get_or starts_of (leads_from N s) 0) (get_or starts_of (leads_to N s) 0) (ticks N s)).1
      (step_in (ticks N s) _ _ _ _ (kept s h) (start_is (leads_from N s) (from_inside N S s h)) (start_is (leads_to N s) (to_inside N S s h))) in
      let l = least_when_reached_lem N S starts_of full steps reached in
      record { fits = record { scaled = omega arith; complete = full }; keeps = l.0; least = l.1 }

pub least_or_circuit_lem : LeastOrCircuit
unfolding high
least_or_circuit_lem N S =
    elim (potential (Has N) (leads_to N) (leads_from N) (ticks N) (all_steps N) (listed N) (stations N) (from_inside N S)) [
      | inl bad ↦ inr (circuit_of N bad)
      | inr kept ↦ inl (starts_of N S, least_of N S kept)
    ]

pub circuits_decide_lem : CircuitsDecide
circuits_decide_lem N S = (
  λ none. elim (least_or_circuit_lem N S) [ inl l ↦ absurd (none (whole l.0) l.1.fits l.1.keeps) | inr c ↦ c ],
  λ c. circuit_forbids_lem N S c.0 c.1 c.2,
)

-- Over all paces

-- the time of a circuit is at most the time of all stations
time_over : (N : Net) (c : List Step) → time_of N c ≡ over (duration N) (map (leads_from N) c)
time_over N [] = refl
time_over N (s ∷ c) = omega (arith, time_over N c)

pub circuit_time : (N : Net) → Sound N → (c : List Step) → Circuit N c → time_of N c ≤ upto (duration N) (stations N)
circuit_time N S c C =
    let x = C.closed.0 in
    omega (arith, time_over N c, ends_sum N (duration N) c x x C.closed.1, once_sum (duration N) (stations N) (map (leads_to N) c) C.once (chain_inside N S c x x C.closed.1))

-- at a pace with more ticks a share than that, only the pair counts
pair_above : (A t : ℕ) (a z : ℤ) → t < A → Is z (1 * t + A * up a) (A * down a) → pos 0 <ℤ z → PairAbove a t
pair_above A t a z h p above =
    elim (cases_order (up a) (down a)) [
      | inl e ↦ inr (same_in a (pos 0) (omega arith), (let k = lt_out (pos 0) z above in omega (arith, ap (λ n. A * n) e)))
      | inr (inl l) ↦ absurd (let k = lt_out (pos 0) z above in omega (arith, mul-le-mul_left A l))
      | inr (inr l) ↦ inl (below_in (pos 0) a (omega arith))
    ]

pace_or_pair : (N : Net) → Sound N → SomePace N ⊎ PairCircuit N
pace_or_pair N S =
    let A = suc (upto (duration N) (stations N)) in
    let hA : 1 ≤ A = omega arith in
    let h1 : 1 ≤ 1 = omega arith in
    elim (least_or_circuit_lem (at_pace_lem N A 1) (sound_at N A 1 S hA h1)) [
      | inl l ↦ inl (A, 1, hA, h1, (whole l.0, l.1.fits, l.1.keeps))
      | inr c ↦
          (let C : Circuit N c.0 = circuit_at (at_pace_lem N A 1) N.A N.B c.0 c.1 in
          inr (c.0, C, pair_above A (time_of N c.0) (shares_of N c.0) (ticks_of (at_pace_lem N A 1) c.0) (omega (arith, circuit_time N S c.0 C)) (pair_at N A 1 c.0) c.2))
    ]

pub pairs_decide : PairsDecide
pairs_decide N S =
    let either = pace_or_pair N S in (
      (
        λ none. elim either [ inl p ↦ absurd (none p.0 p.1 p.2 p.3 p.4.0 p.4.1 p.4.2) | inr c ↦ c ],
        λ c. pair_forbids_lem N S c.0 c.1 c.2,
      ),
      either,
    )

-- Pairs at the stations that keep every step

pair_joined : (p q a b p' q' a' b' p'' q'' : ℤ) → PairAtMost (p +ℤ a) (q +ℤ b) p' q' → PairAtMost (p' +ℤ a') (q' +ℤ b') p'' q'' → PairAtMost (p +ℤ (a +ℤ a')) (q +ℤ (b +ℤ b')) p'' q''
pair_joined p q a b p' q' a' b' p'' q'' (inl h) (inl k) = inl (omega (arith, ints))
pair_joined p q a b p' q' a' b' p'' q'' (inl h) (inr (e, k)) = inl (omega (arith, ints))
pair_joined p q a b p' q' a' b' p'' q'' (inr (e, h)) (inl k) = inl (omega (arith, ints))
pair_joined p q a b p' q' a' b' p'' q'' (inr (e, h)) (inr (f, k)) = inr (omega (arith, ints), omega (arith, ints))

pair_low : (p q a : ℤ) (b : ℕ) → PairAtMost (p +ℤ a) (q +ℤ pos b) p q → PairAbove a b → ⊥
pair_low p q a b (inl h) (inl k) = omega (arith, ints)
pair_low p q a b (inl h) (inr (e, k)) = omega (arith, ints)
pair_low p q a b (inr (f, h)) (inl k) = omega (arith, ints)
pair_low p q a b (inr (f, h)) (inr (e, k)) = omega (arith, ints)

module _ (N : Net) (p q : ℕ → ℤ) (kept : (s : Step) → Has N s → PairAtMost (p (leads_from N s) +ℤ shares N s) (q (leads_from N s) +ℤ pos (time N s)) (p (leads_to N s)) (q (leads_to N s))) where
  pair_chain : (c : List Step) (x y : ℕ) → Chain N x c y → PairAtMost (p x +ℤ shares_of N c) (q x +ℤ pos (time_of N c)) (p y) (q y)
  pair_chain [] x y e = inr (+ℤ_idr (p x) ∙ ap p e, (let f = ap q e in omega (arith, ints)))
  pair_chain (s ∷ c) x y (h, e, r) =
      let first = subst (λ z. PairAtMost (p z +ℤ shares N s) (q z +ℤ pos (time N s)) (p (leads_to N s)) (q (leads_to N s))) e (kept s h) in
      pair_joined (p x) (q x) (shares N s) (pos (time N s)) (p (leads_to N s)) (q (leads_to N s)) (shares_of N c) (pos (time_of N c)) (p y) (q y) first (pair_chain c (leads_to N s) y r)

pub pair_starts_allow_lem : PairStartsAllow
pair_starts_allow_lem N S p q kept =
    elim (pace_or_pair N S) [
      | inl a ↦ a
      | inr (c, C, above) ↦
          (let x = C.closed.0 in absurd (pair_low (p x) (q x) (shares_of N c) (time_of N c) (pair_chain N p q kept c x x C.closed.1) above))
    ]
