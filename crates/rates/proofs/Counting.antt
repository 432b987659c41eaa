-- Fewer stations are missing where one more is reached and none is lost. Assumes nothing.
use Rattle.std.proofs.Common.{◌≡◌, ℕ, zero, suc, ◌<◌, ◌≤◌, List, [], ◌∷◌, length, arith}
use Rattle.rates.specs.Reaching.{number, missing}

pub fewer : (xs ys : List ℕ) → length ys ≡ length xs → ((i : ℕ) → 1 ≤ number xs i → 1 ≤ number ys i) → missing ys ≤ missing xs
fewer [] [] e h = omega arith
fewer [] (y ∷ ys) e h = absurd (omega arith)
fewer (x ∷ xs) [] e h = absurd (omega arith)
fewer (zero ∷ xs) (zero ∷ ys) e h = omega (arith, fewer xs ys (omega arith) (λ i. h (suc i)))
fewer (zero ∷ xs) (suc y ∷ ys) e h = omega (arith, fewer xs ys (omega arith) (λ i. h (suc i)))
fewer (suc x ∷ xs) (zero ∷ ys) e h = absurd (omega (arith, h 0 (omega arith)))
fewer (suc x ∷ xs) (suc y ∷ ys) e h = fewer xs ys (omega arith) (λ i. h (suc i))

pub one_fewer : (xs ys : List ℕ) (j : ℕ) → length ys ≡ length xs → ((i : ℕ) → 1 ≤ number xs i → 1 ≤ number ys i) → j < length xs → number xs j ≡ 0 → 1 ≤ number ys j → missing ys < missing xs
one_fewer [] ys j e h l z p = absurd (omega arith)
one_fewer (x ∷ xs) [] j e h l z p = absurd (omega arith)
one_fewer (zero ∷ xs) (zero ∷ ys) zero e h l z p = absurd (omega arith)
one_fewer (zero ∷ xs) (suc y ∷ ys) zero e h l z p = omega (arith, fewer xs ys (omega arith) (λ i. h (suc i)))
one_fewer (suc x ∷ xs) (y ∷ ys) zero e h l z p = absurd (omega arith)
one_fewer (zero ∷ xs) (zero ∷ ys) (suc j) e h l z p = omega (arith, one_fewer xs ys j (omega arith) (λ i. h (suc i)) (omega arith) z p)
one_fewer (zero ∷ xs) (suc y ∷ ys) (suc j) e h l z p = omega (arith, one_fewer xs ys j (omega arith) (λ i. h (suc i)) (omega arith) z p)
one_fewer (suc x ∷ xs) (zero ∷ ys) (suc j) e h l z p = absurd (omega (arith, h 0 (omega arith)))
one_fewer (suc x ∷ xs) (suc y ∷ ys) (suc j) e h l z p = one_fewer xs ys j (omega arith) (λ i. h (suc i)) (omega arith) z p
