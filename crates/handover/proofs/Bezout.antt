-- Bezout's equation in natural numbers. Assumes nothing.
use Rattle.std.proofs.Common.{◌≡◌, ℕ, zero, suc, ◌+◌, ◌-◌, ◌*◌, ◌/◌, ◌%◌, ◌<◌, ◌≤◌, ◌⊎◌, ap, ◌∙◌, inl, inr, not-suc-le-zero, mul-le-mul_right, sub-add_cancel, arith}
use native.Mathlib.Nat.{div-add-mod}
use Rattle.handover.specs.Gcd.{gcd, gcd_in, Coprime}
use Rattle.handover.proofs.Gcd.{less, coprime}

-- g is the difference of a multiple of a and one of b, whichever is larger
Bezout : ℕ → ℕ → ℕ → Type 0
Bezout a b g = (x : ℕ) × (y : ℕ) × ((a * x ≡ b * y + g) ⊎ (b * y ≡ a * x + g))

step : (a b g x y : ℕ) → (b * x ≡ a % b * y + g) ⊎ (a % b * y ≡ b * x + g) → Bezout a b g
unfolding Bezout
step a b g x y (inl e) = (y, x + a / b * y, inr (omega (arith, ap (λ z. z * y) (div-add-mod a b))))
step a b g x y (inr e) = (y, x + a / b * y, inl (omega (arith, ap (λ z. z * y) (div-add-mod a b))))

bezout_in : (n a b : ℕ) → b < n → Bezout a b (gcd_in n a b)
unfolding Bezout
bezout_in zero a b h = absurd (not-suc-le-zero h)
bezout_in (suc n) a zero h = (1, 0, inl (omega arith))
bezout_in (suc n) a (suc b) h =
    let ih = bezout_in n (suc b) (a % suc b) (less a b h) in
    step a (suc b) (gcd_in n (suc b) (a % suc b)) ih.0 ih.1 ih.2

-- the multiple of a can be the larger one
turned : (a b g x y x' y' : ℕ) → b * y ≡ a * x + g → x' + x ≡ b * (x + y) → y' + y ≡ a * (x + y) → a * x' ≡ b * y' + g
turned a b g x y x' y' e p q = omega (arith, ap (λ z. a * z) p, ap (λ z. b * z) q)

larger : (a b g x y : ℕ) → 1 ≤ a → 1 ≤ b → (a * x ≡ b * y + g) ⊎ (b * y ≡ a * x + g) → (x : ℕ) × (y : ℕ) × (a * x ≡ b * y + g)
larger a b g x y ha hb (inl e) = (x, y, e)
larger a b g x y ha hb (inr e) =
    let p : x ≤ b * (x + y) = omega (arith, mul-le-mul_right (x + y) hb) in
    let q : y ≤ a * (x + y) = omega (arith, mul-le-mul_right (x + y) ha) in
    (b * (x + y) - x, a * (x + y) - y, turned a b g x y _ _ e (sub-add_cancel p) (sub-add_cancel q))

pub bezout : (a b : ℕ) → 1 ≤ a → 1 ≤ b → (x : ℕ) × (y : ℕ) × (a * x ≡ b * y + gcd a b)
unfolding Bezout
bezout a b ha hb =
    let z = bezout_in (suc b) a b (omega arith) in
    larger a b (gcd a b) z.0 z.1 ha hb z.2

pub bezout_one : (a b : ℕ) → 1 ≤ a → 1 ≤ b → Coprime a b → (x : ℕ) × (y : ℕ) × (a * x ≡ b * y + 1)
bezout_one a b ha hb c =
    let z = bezout a b ha hb in
    (z.0, z.1, z.2 ∙ ap (λ k. b * z.1 + k) ((coprime a b).1 c))
