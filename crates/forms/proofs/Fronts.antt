-- Beginnings of lists.
use Rattle.std.proofs.Common.{◌≡◌, ℕ, ◌<◌, ◌≤◌, false, List, [], ◌∷◌, ◌++◌, length, refl, ap, arith}
use Rattle.forms.specs.Marks.{digit_first}

pub head_same : {x y : ℕ} {xs ys : List ℕ} → x ∷ xs ≡ y ∷ ys → x ≡ y
head_same e = cc

pub tail_same : {x y : ℕ} {xs ys : List ℕ} → x ∷ xs ≡ y ∷ ys → xs ≡ ys
tail_same e = cc

pub cons_nil : {x : ℕ} {xs : List ℕ} → x ∷ xs ≡ [] → ⊥
cons_nil {x} {xs} e = omega (arith, ap length e)

-- a beginning that is at least as long as xs goes on from xs
pub split_front : (xs ys s u : List ℕ) → xs ++ ys ≡ s ++ u → length xs ≤ length s → (r : List ℕ) × (s ≡ xs ++ r) × (ys ≡ r ++ u)
split_front [] ys s u e h = (s, refl, e)
split_front (x ∷ xs) ys [] u e h = absurd (omega arith)
split_front (x ∷ xs) ys (y ∷ s) u e h =
    let r = split_front xs ys s u (tail_same e) (omega arith) in
    let same : y ∷ s ≡ x ∷ xs ++ r.0 = cc (head_same e, r.1) in
    (r.0, same, r.2)

-- what follows a beginning that is not empty does not change its first byte
pub first_front : (s u v : List ℕ) → 0 < length s → digit_first (s ++ u) ≡ false → digit_first (s ++ v) ≡ false
first_front [] u v h e = absurd (omega arith)
first_front (c ∷ s) u v h e = e
