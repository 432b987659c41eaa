-- A circuit from another of its stations. Assumes nothing.
use Rattle.std.proofs.Common.{◌≡◌, ℕ, ◌+◌, ◌↔◌, List, [], ◌∷◌, ◌++◌, map, ◌+ℤ◌, sym, refl, ◌∙◌, subst, arith}
use lib.IntN.{+ℤ_comm}
use Rattle.std.proofs.lemmas.Int.{ints}
use Rattle.rules.specs.Net.{Net}
use Rattle.rules.specs.Steps.{Step, Chain, leads_from, leads_to, ticks_of, shares_of, time_of}
use Rattle.handover.specs.Once.{Once}
use Rattle.rules.specs.Theorems.{CircuitTurned}
use Rattle.handover.proofs.Once.{over, is, once_count, count_once}
use Rattle.rules.proofs.Existence.{ends_sum}

module _ (N : Net) where
  pub chain_join : (a b : List Step) (x y z : ℕ) → Chain N x a y → Chain N y b z → Chain N x (a ++ b) z
  chain_join [] b x y z e C = subst (λ k. Chain N k b z) (sym e) C
  chain_join (s ∷ a) b x y z (h, e, r) C = (h, e, chain_join a b (leads_to N s) y z r C)

  pub chain_cut : (a b : List Step) (x z : ℕ) → Chain N x (a ++ b) z → (y : ℕ) × Chain N x a y × Chain N y b z
  chain_cut [] b x z C = (x, refl, C)
  chain_cut (s ∷ a) b x z (h, e, r) = let c = chain_cut a b (leads_to N s) z r in (c.0, (h, e, c.1), c.2)

  pub ticks_join : (a b : List Step) → ticks_of N (a ++ b) ≡ ticks_of N a +ℤ ticks_of N b
  ticks_join [] b = omega (arith, ints)
  ticks_join (s ∷ a) b = let h = ticks_join a b in omega (arith, ints)

  pub shares_join : (a b : List Step) → shares_of N (a ++ b) ≡ shares_of N a +ℤ shares_of N b
  shares_join [] b = omega (arith, ints)
  shares_join (s ∷ a) b = let h = shares_join a b in omega (arith, ints)

  pub time_join : (a b : List Step) → time_of N (a ++ b) ≡ time_of N a + time_of N b
  time_join [] b = omega arith
  time_join (s ∷ a) b = omega (arith, time_join a b)

  over_join : (f : ℕ → ℕ) (a b : List Step) → over f (map (leads_to N) (a ++ b)) ≡ over f (map (leads_to N) a) + over f (map (leads_to N) b)
  over_join f [] b = omega arith
  over_join f (s ∷ a) b = omega (arith, over_join f a b)

  -- of a closed chain it is the same that it leads to no station twice and that it leads from none twice
  pub once_either : (c : List Step) (x : ℕ) → Chain N x c x → Once (map (leads_to N) c) ↔ Once (map (leads_from N) c)
  once_either c x C = (
    λ o. count_once (map (leads_from N) c) (λ z. omega (arith, once_count (map (leads_to N) c) o z, ends_sum N (is z) c x x C)),
    λ o. count_once (map (leads_to N) c) (λ z. omega (arith, once_count (map (leads_from N) c) o z, ends_sum N (is z) c x x C)),
  )

pub circuit_turned_lem : CircuitTurned
circuit_turned_lem N a b C =
    let k = chain_cut N a b C.closed.0 C.closed.0 C.closed.1 in (
      record {
        closed = (k.0, chain_join N b a k.0 C.closed.0 k.0 k.2 k.1);
        once = count_once (map (leads_to N) (b ++ a)) (λ z. omega (arith, once_count (map (leads_to N) (a ++ b)) C.once z, over_join N (is z) a b, over_join N (is z) b a));
      },
      ticks_join N b a ∙ +ℤ_comm (ticks_of N b) (ticks_of N a) ∙ sym (ticks_join N a b),
      shares_join N b a ∙ +ℤ_comm (shares_of N b) (shares_of N a) ∙ sym (shares_join N a b),
      omega (arith, time_join N a b, time_join N b a),
    )
