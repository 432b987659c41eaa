-- The hand-over law. Assumes nothing.
use Rattle.std.proofs.Common.{◌≡◌, ℕ, zero, suc, ◌+◌, ◌-◌, ◌*◌, ◌/◌, ◌<◌, ◌≤◌, ap, ◌∙◌, inl, inr, le_trans, le_refl, lt_irrefl, mul-le-mul_left, mul-pos, arith}
use native.Mathlib.Nat.{mul-div-le, lt-mul-div-succ, lt_of_mul-lt-mul_left}
use Rattle.std.proofs.lemmas.Bool.{cases_lt}
use Rattle.handover.specs.Supply.{count, Covered}
use Rattle.handover.specs.Gcd.{Coprime}
use Rattle.handover.specs.Law.{HandOverLaw}
use Rattle.handover.proofs.Positive.{right_pos}
use Rattle.handover.proofs.Count.{arrived}
use Rattle.handover.proofs.Bezout.{bezout_one}

-- If

-- where the draws have outrun the arrivals, they have so in units of g
outrun : (g w1 v1 u R N : ℕ) → u + g * w1 * R < g * v1 * N → w1 * R + u / g < v1 * N
outrun g w1 v1 u R N h = lt_of_mul-lt-mul_left g (omega (arith, mul-div-le u g))

in_time : (w1 v1 d K s x y n R : ℕ) → x + K * (v1 * d) ≤ y + K * (s * d + d) → w1 * R + s < v1 * suc n → x + R * (K * (w1 * d)) ≤ y + n * (K * (v1 * d))
in_time w1 v1 d K s x y n R late h = omega (arith, mul-le-mul_left (K * d) h)

-- Only if

-- there is a draw that wants the next arrival, with nothing to spare
tight : (w1 v1 s : ℕ) → 1 ≤ w1 → 1 ≤ v1 → Coprime w1 v1 → (n : ℕ) × (R : ℕ) × (v1 * suc n ≡ w1 * R + suc s)
tight w1 v1 s hw hv c =
    let z = bezout_one v1 w1 hv hw (λ k p q. c k q p) in
    let e : v1 * (z.0 * suc s) ≡ w1 * (z.1 * suc s) + suc s = omega (arith, ap (λ k. k * suc s) z.2) in
    let p : 0 < z.0 * suc s = right_pos v1 (z.0 * suc s) (omega arith) in
    (z.0 * suc s - 1, z.1 * suc s, ap (λ k. v1 * k) (omega arith) ∙ e)

wanted : (g w1 v1 u n R N R' : ℕ) → 1 ≤ g → v1 * suc n ≡ w1 * R + suc (u / g) → n < N → g * v1 * N ≤ u + g * w1 * R' → R < R'
wanted g w1 v1 u n R N R' hg e h k =
    lt_of_mul-lt-mul_left (g * w1) (omega (arith, lt-mul-div-succ u hg, mul-le-mul_left (g * v1) h, ap (λ z. g * z) e))

late_enough : (w1 v1 d K s x y n R : ℕ) → v1 * suc n ≡ w1 * R + suc s → x + R * (K * (w1 * d)) ≤ y + n * (K * (v1 * d)) → x + K * (v1 * d) ≤ y + K * (s * d + d)
late_enough w1 v1 d K s x y n R e h = omega (arith, ap (λ z. K * d * z) e)

module _ (g w1 v1 d K : ℕ) (hg : 1 ≤ g) (hw : 1 ≤ w1) (hv : 1 ≤ v1) (hd : 1 ≤ d) (hK : 1 ≤ K) (u x y : ℕ) where
  P_pos : 1 ≤ K * (w1 * d)
  P_pos = mul-pos hK (mul-pos hw hd)

  Q_pos : 1 ≤ K * (v1 * d)
  Q_pos = mul-pos hK (mul-pos hv hd)

  -- N draws and R arrivals have come
  caught : (t R N : ℕ) → ((n : ℕ) → x + n * (K * (w1 * d)) ≤ t → n < R) → ((n : ℕ) → n < N → y + n * (K * (v1 * d)) ≤ t) → x + K * (v1 * d) ≤ y + K * (u / g * d + d) → g * v1 * N ≤ u + g * w1 * R
  caught t R zero here came late = omega arith
  caught t R (suc n) here came late =
      elim (cases_lt (u + g * w1 * R) (g * v1 * suc n)) [
        | inl short ↦ absurd (lt_irrefl R (here R (le_trans (in_time w1 v1 d K (u / g) x y n R late (outrun g w1 v1 u R (suc n) short)) (came n (le_refl (suc n))))))
        | inr enough ↦ enough
      ]

  pub if : x + K * (v1 * d) ≤ y + K * (u / g * d + d) → Covered u (g * w1) (g * v1) x (K * (w1 * d)) y (K * (v1 * d))
  if late t =
      caught t (count x (K * (w1 * d)) t) (count y (K * (v1 * d)) t) (λ n. (arrived x (K * (w1 * d)) t n P_pos).1) (λ n. (arrived y (K * (v1 * d)) t n Q_pos).0) late

  pub only_if : Coprime w1 v1 → Covered u (g * w1) (g * v1) x (K * (w1 * d)) y (K * (v1 * d)) → x + K * (v1 * d) ≤ y + K * (u / g * d + d)
  only_if c covered =
      let z = tight w1 v1 (u / g) hw hv c in
      let n = z.0 in
      let R = z.1 in
      let t = y + n * (K * (v1 * d)) in
      let drawn = (arrived y (K * (v1 * d)) t n Q_pos).1 (le_refl t) in
      let need = wanted g w1 v1 u n R (count y (K * (v1 * d)) t) (count x (K * (w1 * d)) t) hg z.2 drawn (covered t) in
      late_enough w1 v1 d K (u / g) x y n R z.2 ((arrived x (K * (w1 * d)) t R P_pos).0 need)

pub hand_over : HandOverLaw
hand_over g w1 v1 d K hg hw hv hd hK c u x y = (only_if g w1 v1 d K hg hw hv hd hK u x y c, if g w1 v1 d K hg hw hv hd hK u x y)
