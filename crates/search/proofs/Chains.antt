-- Chains of edges joined and cut. Assumes nothing.
use Rattle.std.proofs.Common.{◌≡◌, ℕ, ◌<◌, List, [], ◌∷◌, ◌++◌, length, get_or, sym, refl, ap, ◌∙◌, subst, arith}
use Rattle.lengths.specs.Laws.{JoinLaws}
use Rattle.search.specs.declared.Edge.{Edge}
use Rattle.search.specs.Terms.{begins, ends, lasts, EdgeChain, total}

module _ {L : Type 0} (es : List (Edge L)) where
  pub chain_join : (a b : List ℕ) (x y z : ℕ) → EdgeChain es x a y → EdgeChain es y b z → EdgeChain es x (a ++ b) z
  chain_join [] b x y z e C = subst (λ k. EdgeChain es k b z) (sym e) C
  chain_join (s ∷ a) b x y z (h, e, r) C = (h, e, chain_join a b (ends es s) y z r C)

  pub chain_cut : (a b : List ℕ) (x z : ℕ) → EdgeChain es x (a ++ b) z → (y : ℕ) × EdgeChain es x a y × EdgeChain es y b z
  chain_cut [] b x z C = (x, refl, C)
  chain_cut (s ∷ a) b x z (h, e, r) = let c = chain_cut a b (ends es s) z r in (c.0, (h, e, c.1), c.2)

  pub chain_first : (c : List ℕ) (x y : ℕ) → EdgeChain es x c y → 0 < length c → begins es (get_or c 0 0) ≡ x
  chain_first [] x y e h = absurd (let z : 0 < 0 = h in omega arith)
  chain_first (s ∷ c) x y (h, e, r) k = e

module _ {L : Type 0} {neutral : L} {joined : L → L → L} {opposite : L → L} {size : L → ℕ} (j : JoinLaws neutral joined opposite size) (es : List (Edge L)) where
  pub total_join : (a b : List ℕ) → total neutral joined es (a ++ b) ≡ joined (total neutral joined es a) (total neutral joined es b)
  total_join [] b = sym (j.left _)
  total_join (s ∷ a) b = ap (joined (lasts neutral es s)) (total_join a b) ∙ sym (j.assoc _ _ _)
