-- What chains say of any starts that keep every edge. Assumes nothing.
use Rattle.std.proofs.Common.{◌≡◌, ℕ, Bool, true, false, List, [], ◌∷◌, get_or}
use Rattle.std.proofs.lemmas.Bool.{both_ways}
use Rattle.lengths.specs.Laws.{JoinLaws, OrderLaws}
use Rattle.search.specs.declared.Edge.{Edge}
use Rattle.search.specs.Terms.{ends, lasts, EdgeChain, total, EdgesKept}
use Rattle.search.proofs.Order.{right, le_le, le_kept}

module _ {L : Type 0} {neutral : L} {joined : L → L → L} {opposite : L → L} {size : L → ℕ} {below : L → L → Bool} (j : JoinLaws neutral joined opposite size) (o : OrderLaws joined below) (es : List (Edge L)) (s : List L) (kept : EdgesKept neutral joined below es s) where
  -- a chain's end starts at least the chain's length after its beginning
  pub along : (a : ℕ) (c : List ℕ) (y : ℕ) → EdgeChain es a c y → below (get_or s y neutral) (joined (get_or s a neutral) (total neutral joined es c)) ≡ false
  along a [] y p = rw (right j (get_or s a neutral), p) (o.irreflexive _)
  along a (e ∷ c) y p =
      let up = along (ends es e) c y p.2 in
      let edge = kept e p.0 in
      let edge' : below (get_or s (ends es e) neutral) (joined (get_or s a neutral) (lasts neutral es e)) ≡ false = rw p.1 at edge in
      let step = le_kept o (joined (get_or s a neutral) (lasts neutral es e)) (get_or s (ends es e) neutral) (total neutral joined es c) edge' in
      rw (← (j.assoc (get_or s a neutral) (lasts neutral es e) (total neutral joined es c))) (le_le o _ _ _ step up)

  -- so its end starts no earlier than the chain is long
  pub least_along : (a : ℕ) (c : List ℕ) (y : ℕ) → EdgeChain es a c y → below (get_or s a neutral) neutral ≡ false → below (get_or s y neutral) (total neutral joined es c) ≡ false
  least_along a c y p floor =
      let step = le_kept o neutral (get_or s a neutral) (total neutral joined es c) floor in
      le_le o _ _ _ (rw (j.left (total neutral joined es c)) at step) (along a c y p)

  -- and a closed chain is not above neutral
  pub shut_along : (a : ℕ) (c : List ℕ) → EdgeChain es a c a → below neutral (total neutral joined es c) ≡ true → ⊥
  shut_along a c p up =
      let more = o.kept neutral (total neutral joined es c) (get_or s a neutral) up in
      let more' = rw (j.left (get_or s a neutral), j.comm (total neutral joined es c) (get_or s a neutral)) at more in
      both_ways _ (along a c a p) more'
