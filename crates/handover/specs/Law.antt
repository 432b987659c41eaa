-- The theorems. Assumes nothing.
use Rattle.std.specs.Prelude.{◌≡◌, ℕ, ◌+◌, ◌-◌, ◌*◌, ◌/◌, ◌≤◌, ◌↔◌}
use Rattle.handover.specs.Supply.{count, Covered}
use Rattle.handover.specs.Gcd.{gcd, IsGcd, Coprime}

abbrev pub Counts : Type 0
Counts = (s P t q : ℕ) → 1 ≤ P → 1 ≤ q → (q ≤ count s P t) ↔ (s + (q - 1) * P ≤ t)

abbrev pub HandOverLaw : Type 0
HandOverLaw =
    (g w1 v1 d K : ℕ) → 1 ≤ g → 1 ≤ w1 → 1 ≤ v1 → 1 ≤ d → 1 ≤ K → Coprime w1 v1 →
    (u x y : ℕ) →
    Covered u (g * w1) (g * v1) x (K * (w1 * d)) y (K * (v1 * d)) ↔ (x + K * (v1 * d) ≤ y + K * (u / g * d + d))

-- Where w every Zi is the rate of v every Zj, both periods are parts of the amounts, times the periods' gcd.
abbrev pub Rates : Type 0
Rates =
    (w v Zi Zj : ℕ) → 1 ≤ w → 1 ≤ v → 1 ≤ Zi → 1 ≤ Zj → Zi * v ≡ Zj * w →
    (Zi ≡ w / gcd w v * gcd Zi Zj) × (Zj ≡ v / gcd w v * gcd Zi Zj)

-- `gcd` is the greatest common divisor.
abbrev pub GcdIs : Type 0
GcdIs = (a b : ℕ) → IsGcd a b (gcd a b)

-- Bezout's equation in natural numbers.
abbrev pub BezoutHolds : Type 0
BezoutHolds = (a b : ℕ) → 1 ≤ a → 1 ≤ b → (x : ℕ) × (y : ℕ) × (a * x ≡ b * y + gcd a b)

-- The law for a timetable: w every A * Zi ticks from x, v every A * Zj ticks from y, at one rate, with times in m-ths of a tick.
abbrev pub Timetable : Type 0
Timetable =
    (w v Zi Zj A : ℕ) → 1 ≤ w → 1 ≤ v → 1 ≤ Zi → 1 ≤ Zj → 1 ≤ A → Zi * v ≡ Zj * w →
    (m : ℕ) → 1 ≤ m → (u x y : ℕ) →
    Covered u w v x (m * A * Zi) y (m * A * Zj) ↔ (x + m * A * Zj ≤ y + m * A * (u / gcd w v * gcd Zi Zj + gcd Zi Zj))

-- The same with the first draw on its own: the earliest one, or 0.
abbrev pub FirstDraw : Type 0
FirstDraw =
    (w v Zi Zj K : ℕ) → 1 ≤ w → 1 ≤ v → 1 ≤ Zi → 1 ≤ Zj → 1 ≤ K → Zi * v ≡ Zj * w → (u x y : ℕ) →
    Covered u w v x (K * Zi) y (K * Zj) ↔ (x + K * Zj - K * (u / gcd w v * gcd Zi Zj + gcd Zi Zj) ≤ y)

-- Where x and y are whole ticks, the scale does not matter.
abbrev pub WholeTicks : Type 0
WholeTicks =
    (w v Zi Zj A : ℕ) → 1 ≤ w → 1 ≤ v → 1 ≤ Zi → 1 ≤ Zj → 1 ≤ A → Zi * v ≡ Zj * w →
    (m : ℕ) → 1 ≤ m → (u x y : ℕ) →
    Covered u w v (m * x) (m * A * Zi) (m * y) (m * A * Zj) ↔ Covered u w v x (A * Zi) y (A * Zj)
