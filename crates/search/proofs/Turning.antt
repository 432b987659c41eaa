-- A circuit from another of its nodes. Assumes nothing.
use Rattle.std.proofs.Common.{◌≡◌, ℕ, ◌+◌, ◌-◌, ◌<◌, ◌≤◌, Bool, true, List, [], ◌∷◌, ◌++◌, map, length, get_or, take, drop, sym, refl, ap, ◌∙◌, subst, inl, inr, arith}
use Rattle.std.specs.Prelude.{All}
use Rattle.std.proofs.lemmas.Bool.{cases_lt, both_ways}
use Rattle.std.proofs.lemmas.List.{length-append, length-take, length-drop, get_or_append_left, get_or-append_right, get_or-take, get_or-drop, take-append-drop}
use Rattle.lengths.specs.Laws.{JoinLaws, OrderLaws}
use Rattle.handover.specs.Once.{Once}
use Rattle.handover.proofs.Once.{over, is, once_count, count_once}
use Rattle.search.specs.declared.Edge.{Edge}
use Rattle.search.specs.Terms.{begins, ends, EdgeChain, total, EdgeCircuit}
use Rattle.search.specs.Levels.{Rising, LowestAt}
use Rattle.search.proofs.Chains.{chain_join, chain_cut, chain_first, total_join}
use Rattle.search.proofs.Bounds.{shut_along}
use Rattle.search.proofs.Walking.{chain_in}

-- The list from the place p on, and then what stands before.
abbrev pub turned : ℕ → List ℕ → List ℕ
turned p c = drop p c ++ take p c

module _ {L : Type 0} (es : List (Edge L)) where
  over_join : (f : ℕ → ℕ) (a b : List ℕ) → over f (map (ends es) (a ++ b)) ≡ over f (map (ends es) a) + over f (map (ends es) b)
  over_join f [] b = omega arith
  over_join f (s ∷ a) b = omega (arith, over_join f a b)

  once_turned : (a b : List ℕ) → Once (map (ends es) (a ++ b)) → Once (map (ends es) (b ++ a))
  once_turned a b o = count_once (map (ends es) (b ++ a)) (λ z. omega (arith, once_count (map (ends es) (a ++ b)) o z, over_join (is z) a b, over_join (is z) b a))

-- what stands in a turned list stood in the list
getD_turned : (p : ℕ) (c : List ℕ) (P : ℕ → Type 0) → ((t : ℕ) → t < length c → P (get_or c t 0)) → (t : ℕ) → t < length (turned p c) → P (get_or (turned p c) t 0)
getD_turned p c P all t h =
    let la = length-append (drop p c) (take p c) in
    let ld = length-drop p c in
    let lt = length-take p c in
    elim (cases_lt t (length (drop p c))) [
      | inl l ↦ subst P (sym (get_or_append_left (drop p c) (take p c) 0 t l ∙ get_or-drop p c t 0)) (all (p + t) (omega arith))
      | inr l ↦ subst P (sym (get_or-append_right (drop p c) (take p c) (length (drop p c)) t 0 refl l ∙ get_or-take p c (t - length (drop p c)) 0 (omega arith))) (all (t - length (drop p c)) (omega arith))
    ]

first_turned : (p : ℕ) (c : List ℕ) → p < length c → get_or (turned p c) 0 0 ≡ get_or c p 0
first_turned p c h =
    get_or_append_left (drop p c) (take p c) 0 0 (omega (arith, length-drop p c)) ∙ get_or-drop p c 0 0 ∙ (let e : p + 0 ≡ p = omega arith in ap (λ k. get_or c k 0) e)

module _ {L : Type 0} {neutral : L} {joined : L → L → L} {opposite : L → L} {size : L → ℕ} {below : L → L → Bool} (j : JoinLaws neutral joined opposite size) (o : OrderLaws joined below) (es : List (Edge L)) where
  total_turned : (a b : List ℕ) → total neutral joined es (a ++ b) ≡ total neutral joined es (b ++ a)
  total_turned a b = total_join j es a b ∙ j.comm _ _ ∙ sym (total_join j es b a)

  -- from the lowest of its nodes, a closed chain that rises is a circuit
  pub circuit_from : (c : List ℕ) (p : ℕ) → Rising neutral joined below es c → LowestAt es c p → EdgeCircuit neutral joined below es (turned p c)
  circuit_from c p r (h, low) =
      let same = take-append-drop p c in
      let k = chain_cut es (take p c) (drop p c) r.closed.0 r.closed.0 (subst (λ z. EdgeChain es r.closed.0 z r.closed.0) (sym same) r.closed.1) in
      let round = chain_join es (drop p c) (take p c) k.0 r.closed.0 k.0 k.2 k.1 in
      let up = subst (λ z. below neutral z ≡ true) (ap (total neutral joined es) (sym same) ∙ total_turned (take p c) (drop p c)) r.above in
      let some : 0 < length (turned p c) = omega (arith, length-append (drop p c) (take p c), length-drop p c) in
      let at : begins es (get_or c p 0) ≡ k.0 = ap (begins es) (sym (first_turned p c h)) ∙ chain_first es (turned p c) k.0 k.0 round some in
      record {
        closed = (k.0, round);
        lowest = getD_turned p c (λ e. k.0 ≤ begins es e) (λ t g. let l = low t g in omega arith);
        once = once_turned es (take p c) (drop p c) (subst (λ z. Once (map (ends es) z)) (sym same) r.once);
        above = up;
        shut = λ other kept. shut_along j o es other kept k.0 (turned p c) round up;
      }

  -- a closed chain that rises has an edge
  pub rising_some : (c : List ℕ) → Rising neutral joined below es c → 1 ≤ length c
  rising_some [] r = absurd (both_ways (below neutral neutral) (o.irreflexive neutral) r.above)
  rising_some (e ∷ c) r = omega arith

  pub rising_known : (c : List ℕ) → Rising neutral joined below es c → All (λ e. e < length es) c
  rising_known c r = chain_in es r.closed.0 c r.closed.0 r.closed.1
