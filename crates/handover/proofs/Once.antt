-- Lists in which no number stands twice. Assumes nothing.
use Rattle.std.proofs.Common.{◌≡◌, ℕ, zero, suc, ◌+◌, ◌<◌, ◌≤◌, cond, eqb, ◌⊎◌, List, [], ◌∷◌, length, sym, refl, ap, subst, inl, inr, arith}
use Rattle.std.proofs.lemmas.Bool.{cases_eq, eq-eqb, ne_eqb}
use Rattle.handover.specs.Once.{Absent, Once}

abbrev pub Below : ℕ → List ℕ → Type 0
Below n [] = Unit {0}
Below n (x ∷ xs) = (x < n) × Below n xs

-- f, summed over a list and over all numbers below n
abbrev pub over : (ℕ → ℕ) → List ℕ → ℕ
over f [] = 0
over f (x ∷ xs) = f x + over f xs

abbrev pub upto : (ℕ → ℕ) → ℕ → ℕ
upto f zero = 0
upto f (suc n) = f n + upto f n

-- xs without z
record Removed (f : ℕ → ℕ) (z : ℕ) (xs : List ℕ) : Type 0 where
  rest : List ℕ
  sums : over f xs ≡ f z + over f rest
  once : Once rest
  gone : Absent z rest
  absent : (q : ℕ) → Absent q xs → Absent q rest
  below : (n : ℕ) → Below n xs → Below n rest

remove : (f : ℕ → ℕ) (z : ℕ) (xs : List ℕ) → Once xs → Absent z xs ⊎ Removed f z xs
remove f z [] o = inl tt
remove f z (y ∷ ys) (a, o) =
    elim (cases_eq y z) [
      | inl e ↦ inr (record { rest = ys; sums = ap (λ k. f k + over f ys) e; once = o; gone = subst (λ k. Absent k ys) e a; absent = λ q p. p.1; below = λ n b. b.1 })
      | inr ne ↦
          elim (remove f z ys o) [
            | inl a' ↦ inl (λ e. ne (sym e), a')
            | inr r ↦ inr (record {
              rest = y ∷ r.rest;
              sums = omega (arith, r.sums);
              once = (r.absent y a, r.once);
              gone = (λ e. ne (sym e), r.gone);
              absent = λ q p. (p.0, r.absent q p.1);
              below = λ n b. (b.0, r.below n b.1);
            })
          ]
    ]

narrow : (n : ℕ) (xs : List ℕ) → Below (suc n) xs → Absent n xs → Below n xs
narrow n [] b a = tt
narrow n (x ∷ xs) (h, b) (ne, a) = (let d : x ≡ n → ⊥ = λ e. ne (sym e) in omega arith, narrow n xs b a)

-- numbers below n, none of them twice, sum f to no more than all numbers below n do
pub once_sum : (f : ℕ → ℕ) (n : ℕ) (xs : List ℕ) → Once xs → Below n xs → over f xs ≤ upto f n
once_sum f zero [] o b = omega arith
once_sum f zero (x ∷ xs) o b = absurd (omega arith)
once_sum f (suc n) xs o b =
    elim (remove f n xs o) [
      | inl a ↦ (let h = once_sum f n xs o (narrow n xs b a) in omega arith)
      | inr r ↦ (let h = once_sum f n r.rest r.once (narrow n r.rest (r.below (suc n) b) r.gone) in omega (arith, r.sums))
    ]

ones_over : (xs : List ℕ) → over (λ x. 1) xs ≡ length xs
ones_over [] = refl
ones_over (x ∷ xs) = omega (arith, ones_over xs)

ones_upto : (n : ℕ) → upto (λ x. 1) n ≡ n
ones_upto zero = refl
ones_upto (suc n) = omega (arith, ones_upto n)

-- so there are at most n of them
pub once_few : (n : ℕ) (xs : List ℕ) → Once xs → Below n xs → length xs ≤ n
once_few n xs o b = omega (arith, once_sum (λ x. 1) n xs o b, ones_over xs, ones_upto n)

-- Once, by counting

abbrev pub is : ℕ → ℕ → ℕ
is z x = cond (eqb x z) 1 0

is_same : (z : ℕ) → is z z ≡ 1
is_same z = rw (eq-eqb z z refl) refl

is_other : (z x : ℕ) → (z ≡ x → ⊥) → is z x ≡ 0
is_other z x ne = rw (ne_eqb x z (λ e. ne (sym e))) refl

absent_count : (z : ℕ) (xs : List ℕ) → Absent z xs → over (is z) xs ≡ 0
absent_count z [] a = refl
absent_count z (x ∷ xs) (ne, a) = omega (arith, is_other z x ne, absent_count z xs a)

count_absent : (z : ℕ) (xs : List ℕ) → over (is z) xs ≡ 0 → Absent z xs
count_absent z [] e = tt
count_absent z (x ∷ xs) e = (λ f. absurd (omega (arith, ap (is z) f, is_same z)), count_absent z xs (omega arith))

pub once_count : (xs : List ℕ) → Once xs → (z : ℕ) → over (is z) xs ≤ 1
once_count [] o z = omega arith
once_count (x ∷ xs) (a, o) z =
    elim (cases_eq z x) [
      | inl e ↦ (let h = absent_count z xs (subst (λ k. Absent k xs) (sym e) a) in let k = is_same z in omega (arith, ap (is z) e))
      | inr ne ↦ omega (arith, is_other z x ne, once_count xs o z)
    ]

pub count_once : (xs : List ℕ) → ((z : ℕ) → over (is z) xs ≤ 1) → Once xs
count_once [] h = tt
count_once (x ∷ xs) h = (count_absent x xs (omega (arith, h x, is_same x)), count_once xs (λ z. omega (arith, h z)))
