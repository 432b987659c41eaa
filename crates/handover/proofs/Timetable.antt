-- The law for a timetable. Assumes nothing.
use Rattle.std.proofs.Common.{◌≡◌, ℕ, ◌+◌, ◌*◌, ◌/◌, ◌≤◌, ◌↔◌, mul-le-mul_left, mul-pos, arith}
use native.Mathlib.Nat.{le_of_mul-le-mul_left}
use Rattle.handover.specs.Supply.{Covered}
use Rattle.handover.specs.Gcd.{gcd, Coprime}
use Rattle.handover.specs.Law.{Timetable, FirstDraw, WholeTicks}
use Rattle.handover.proofs.Gcd.{gcd_is}
use Rattle.handover.proofs.Rates.{whole_left, whole_right, gcd_pos, parts_coprime, rates}
use Rattle.handover.proofs.Positive.{left_pos, right_pos}
use Rattle.handover.proofs.HandOver.{hand_over}

-- the law, over names for its products
named : (g w1 v1 d K w v Zi Zj : ℕ) → w ≡ g * w1 → v ≡ g * v1 → Zi ≡ w1 * d → Zj ≡ v1 * d →
    1 ≤ w → 1 ≤ v → 1 ≤ Zi → 1 ≤ K → Coprime w1 v1 → (u x y : ℕ) →
    Covered u w v x (K * Zi) y (K * Zj) ↔ (x + K * Zj ≤ y + K * (u / g * d + d))
named g w1 v1 d K w v Zi Zj ew ev ei ej hw hv hi hK co u x y =
    let hg : 1 ≤ g = left_pos g w1 (omega arith) in
    let hw1 : 1 ≤ w1 = right_pos g w1 (omega arith) in
    let hv1 : 1 ≤ v1 = right_pos g v1 (omega arith) in
    let hd : 1 ≤ d = right_pos w1 d (omega arith) in
    rw (ew, ev, ei, ej) (hand_over g w1 v1 d K hg hw1 hv1 hd hK co u x y)

-- the law over rates, at any K
pub equal_rates : (w v Zi Zj K : ℕ) → 1 ≤ w → 1 ≤ v → 1 ≤ Zi → 1 ≤ Zj → 1 ≤ K → Zi * v ≡ Zj * w → (u x y : ℕ) →
    Covered u w v x (K * Zi) y (K * Zj) ↔ (x + K * Zj ≤ y + K * (u / gcd w v * gcd Zi Zj + gcd Zi Zj))
equal_rates w v Zi Zj K hw hv hi hj hK e u x y =
    let r = rates w v Zi Zj hw hv hi hj e in
    let co = parts_coprime (gcd_is w v) (gcd_pos w v hw) (whole_left w v) (whole_right w v) in
    named (gcd w v) (w / gcd w v) (v / gcd w v) (gcd Zi Zj) K w v Zi Zj (whole_left w v) (whole_right w v) r.0 r.1 hw hv hi hK co u x y

pub timetable : Timetable
timetable w v Zi Zj A hw hv hi hj hA e m hm u x y = equal_rates w v Zi Zj (m * A) hw hv hi hj (mul-pos hm hA) e u x y

pub first_draw : FirstDraw
first_draw w v Zi Zj K hw hv hi hj hK e u x y =
    let law = equal_rates w v Zi Zj K hw hv hi hj hK e u x y in
    (λ c. omega (arith, law.0 c), λ h. law.1 (omega arith))

scaled : (m A x y z s : ℕ) → 1 ≤ m → (m * x + m * A * z ≤ m * y + m * A * s) ↔ (x + A * z ≤ y + A * s)
scaled m A x y z s hm =
    (λ h. le_of_mul-le-mul_left {k = m} (omega arith) hm, λ h. omega (arith, mul-le-mul_left m h))

pub whole_ticks : WholeTicks
whole_ticks w v Zi Zj A hw hv hi hj hA e m hm u x y =
    let fine = timetable w v Zi Zj A hw hv hi hj hA e m hm u (m * x) (m * y) in
    let whole = equal_rates w v Zi Zj A hw hv hi hj hA e u x y in
    let same = scaled m A x y Zj (u / gcd w v * gcd Zi Zj + gcd Zi Zj) hm in
    (λ c. whole.1 (same.0 (fine.0 c)), λ c. fine.1 (same.1 (whole.0 c)))
