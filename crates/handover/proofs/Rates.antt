-- What the rates say of the periods: equal rates have periods that are the two parts, times a common divisor. Assumes nothing.
use Rattle.std.proofs.Common.{◌≡◌, ℕ, ◌+◌, ◌-◌, ◌*◌, ◌/◌, ◌≤◌, sym, ap, ◌∙◌, subst, mul-one, arith}
use Prim.Native.Nat.{◌∣◌}
use native.Mathlib.Nat.{mul-sub, eq_of_mul-eq-mul_left, eq_of_mul-eq-mul_right, dvd-one, dvd-mul_left, dvd-mul_right_of_dvd, dvd-add_iff_right, dvd_of_mul-dvd-mul_left, mul-dvd-mul_left, mul-div_cancel'}
use Rattle.handover.specs.Gcd.{gcd, IsGcd, Coprime}
use Rattle.handover.specs.Law.{Rates}
use Rattle.handover.proofs.Positive.{left_pos, right_pos}
use Rattle.handover.proofs.Gcd.{gcd_is, gcd_unique}
use Rattle.handover.proofs.Bezout.{bezout_one}

-- a number is its gcd times its part
pub whole_left : (a b : ℕ) → a ≡ gcd a b * (a / gcd a b)
whole_left a b = sym (mul-div_cancel' (gcd a b) (gcd_is a b).left)

pub whole_right : (a b : ℕ) → b ≡ gcd a b * (b / gcd a b)
whole_right a b = sym (mul-div_cancel' (gcd a b) (gcd_is a b).right)

pub gcd_pos : (a b : ℕ) → 1 ≤ a → 1 ≤ gcd a b
gcd_pos a b h = left_pos (gcd a b) (a / gcd a b) (omega (arith, whole_left a b))

-- the parts that a gcd leaves are coprime
pub parts_coprime : {a b g a1 b1 : ℕ} → IsGcd a b g → 1 ≤ g → a ≡ g * a1 → b ≡ g * b1 → Coprime a1 b1
parts_coprime {a} {b} {g} {a1} {b1} G hg ea eb k p q =
    let h : g * k ∣ g = G.greatest (g * k) (rw ea (mul-dvd-mul_left k g p)) (rw eb (mul-dvd-mul_left k g q)) in
    dvd-one.0 (dvd_of_mul-dvd-mul_left k hg (subst (λ z. g * k ∣ z) (sym (mul-one g)) h))

-- and times a number, have that number as their gcd
pub times_gcd : (a b c : ℕ) → 1 ≤ a → 1 ≤ b → Coprime a b → IsGcd (a * c) (b * c) c
times_gcd a b c ha hb co =
    let z = bezout_one a b ha hb co in
    let e : a * c * z.0 ≡ b * c * z.1 + c = omega (arith, ap (λ n. n * c) z.2) in
    record {
      left = dvd-mul_left c a;
      right = dvd-mul_left c b;
      greatest = λ k p q. (dvd-add_iff_right k (dvd-mul_right_of_dvd k q z.1)).1 (subst (λ n. k ∣ n) e (dvd-mul_right_of_dvd k p z.0));
    }

common_at : (a b p q x y c : ℕ) → p * b ≡ q * a → b * x ≡ a * y + 1 → a * c ≡ a * (q * x) - a * (p * y) → p ≡ a * c
common_at a b p q x y c e z h = omega (arith, ap (λ n. n * x) e, ap (λ n. p * n) z)

other_at : (a b p q c : ℕ) → 1 ≤ a → p * b ≡ q * a → p ≡ a * c → q ≡ b * c
other_at a b p q c ha e h = eq_of_mul-eq-mul_right a ha q (b * c) (omega (arith, ap (λ n. n * b) h))

-- where p : q is a : b in lowest terms, p and q are a and b times a number
pub common : (a b p q : ℕ) → 1 ≤ a → 1 ≤ b → Coprime a b → p * b ≡ q * a → (c : ℕ) × (p ≡ a * c) × (q ≡ b * c)
common a b p q ha hb co e =
    let z = bezout_one b a hb ha (λ k m n. co k n m) in
    let c : ℕ = q * z.0 - p * z.1 in
    let h : p ≡ a * c = common_at a b p q z.0 z.1 c e z.2 (mul-sub a (q * z.0) (p * z.1)) in
    (c, h, other_at a b p q c ha e h)

-- which is their gcd
as_gcd : (a b c p q d : ℕ) → 1 ≤ a → 1 ≤ b → Coprime a b → p ≡ a * c → q ≡ b * c → IsGcd p q d → (p ≡ a * d) × (q ≡ b * d)
as_gcd a b c p q d ha hb co ep eq D =
    let same : c ≡ d = gcd_unique (times_gcd a b c ha hb co) (rw (ep, eq) at D) in
    (ep ∙ ap (λ n. a * n) same, eq ∙ ap (λ n. b * n) same)

module _ (w v Zi Zj g w1 v1 d : ℕ) (hw : 1 ≤ w) (hv : 1 ≤ v) (G : IsGcd w v g) (D : IsGcd Zi Zj d) (ew : w ≡ g * w1) (ev : v ≡ g * v1) where
  g_pos : 1 ≤ g
  g_pos = left_pos g w1 (omega arith)

  pub rates_at : Zi * v ≡ Zj * w → (Zi ≡ w1 * d) × (Zj ≡ v1 * d)
  rates_at e =
      let hw1 : 1 ≤ w1 = right_pos g w1 (omega arith) in
      let hv1 : 1 ≤ v1 = right_pos g v1 (omega arith) in
      let co = parts_coprime G g_pos ew ev in
      let e1 : Zi * v1 ≡ Zj * w1 = eq_of_mul-eq-mul_left g g_pos (Zi * v1) (Zj * w1) (omega (arith, ap (λ n. Zi * n) ev, ap (λ n. Zj * n) ew)) in
      let z = common w1 v1 Zi Zj hw1 hv1 co e1 in
      as_gcd w1 v1 z.0 Zi Zj d hw1 hv1 co z.1 z.2 D

pub rates : Rates
rates w v Zi Zj hw hv hi hj e =
    rates_at w v Zi Zj (gcd w v) (w / gcd w v) (v / gcd w v) (gcd Zi Zj) hw hv (gcd_is w v) (gcd_is Zi Zj) (whole_left w v) (whole_right w v) e
