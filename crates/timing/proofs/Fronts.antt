-- A loop that writes xs over the front of ys. Assumes nothing.
use Rattle.std.proofs.Common.{◌≡◌, ℕ, ◌+◌, ◌<◌, ◌≤◌, List, [], ◌∷◌, ◌++◌, length, get_or, take, drop, set, sym, ap, ◌∙◌, arith}
use Rattle.std.proofs.lemmas.List.{length-take-le, set_at, drop_more, take_more, take_all, drop_all, append_assoc, append-nil}

module _ {X : Type 0} (xs ys zs : List X) (i : ℕ) (so : zs ≡ take i xs ++ drop i ys) where
  pub front_more : (d x : X) → i < length xs → i < length ys → x ≡ get_or xs i d → set zs i x ≡ take (i + 1) xs ++ drop (i + 1) ys
  front_more d x h k e =
      (λ t. set (so t) i (e t))
      ∙ ap (λ r. set (take i xs ++ r) i (get_or xs i d)) (drop_more ys i d k)
      ∙ set_at (take i xs) (get_or ys i d) (drop (i + 1) ys) (get_or xs i d) i (length-take-le i xs (omega arith))
      ∙ sym (append_assoc (take i xs) (get_or xs i d ∷ []) (drop (i + 1) ys))
      ∙ ap (λ r. r ++ drop (i + 1) ys) (sym (take_more xs i d h))

  pub front_all : length xs ≤ i → length ys ≤ i → zs ≡ xs
  front_all h k = so ∙ (λ t. take_all i xs h t ++ drop_all i ys k t) ∙ append-nil xs
