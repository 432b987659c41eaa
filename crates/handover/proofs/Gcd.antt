-- `gcd` is the greatest common divisor. Assumes nothing.
use Rattle.std.proofs.Common.{◌≡◌, ℕ, zero, suc, ◌%◌, ◌<◌, ◌≤◌, ◌↔◌, refl, not-suc-le-zero, mod-lt, zero-lt-suc, arith}
use native.Mathlib.Nat.{dvd_refl, dvd-zero, dvd-mod_iff, dvd-one, dvd_antisymm}
use Rattle.handover.specs.Gcd.{gcd, gcd_in, IsGcd, Coprime}

-- the remainder is below the fuel that is left
pub less : {n : ℕ} (a b : ℕ) → suc b < suc n → a % suc b < n
less a b h = omega (arith, mod-lt a (zero-lt-suc b))

gcd_in_is : (n a b : ℕ) → b < n → IsGcd a b (gcd_in n a b)
gcd_in_is zero a b h = absurd (not-suc-le-zero h)
gcd_in_is (suc n) a zero h = record { left = dvd_refl a; right = dvd-zero a; greatest = λ k p q. p }
gcd_in_is (suc n) a (suc b) h =
    let ih = gcd_in_is n (suc b) (a % suc b) (less a b h) in
    record {
      left = (dvd-mod_iff _ ih.left).0 ih.right;
      right = ih.left;
      greatest = λ k p q. ih.greatest k q ((dvd-mod_iff k q).1 p);
    }

pub gcd_is : (a b : ℕ) → IsGcd a b (gcd a b)
gcd_is a b = gcd_in_is (suc b) a b (omega arith)

pub gcd_unique : {a b g h : ℕ} → IsGcd a b g → IsGcd a b h → g ≡ h
gcd_unique p q = dvd_antisymm (q.greatest _ p.left p.right) (p.greatest _ q.left q.right)

-- what computes, and what a statement says
pub coprime : (a b : ℕ) → (gcd a b ≡ 1) ↔ Coprime a b
coprime a b =
    (λ e k p q. dvd-one.0 (rw e at ((gcd_is a b).greatest k p q)), λ c. c (gcd a b) (gcd_is a b).left (gcd_is a b).right)

example : gcd 123456789012 987654321098 ≡ 2
example = refl

-- one division by Euclid, for a loop
pub gcd_step : (a b : ℕ) → 1 ≤ b → gcd a b ≡ gcd b (a % b)
gcd_step a b h =
    let s = gcd_is b (a % b) in
    gcd_unique (gcd_is a b)
    (record {
      left = (dvd-mod_iff _ s.left).0 s.right;
      right = s.left;
      greatest = λ k p q. s.greatest k q ((dvd-mod_iff k q).1 p);
    })
