-- A joined net has at most one list of rates. Assumes nothing.
use Rattle.std.proofs.Common.{◌≡◌, ℕ, ◌*◌, ◌/◌, ◌<◌, ◌≤◌, List, sym, refl, ap, ◌∙◌, subst, inl, inr, arith}
use Prim.Native.Nat.{◌∣◌}
use native.Mathlib.Nat.{eq_of_mul-eq-mul_left, eq_of_mul-eq-mul_right, dvd-mul_right}
use Rattle.std.proofs.lemmas.List.{ext_get_or}
use Rattle.handover.specs.Gcd.{gcd}
use Rattle.handover.proofs.Gcd.{gcd_is}
use Rattle.handover.proofs.Positive.{right_pos}
use Rattle.handover.proofs.Rates.{common, parts_coprime, whole_left, whole_right, gcd_pos}
use Rattle.rules.specs.Net.{Net, stations}
use Rattle.rules.specs.Ranges.{Checked}
use Rattle.rules.specs.Rates.{Leads, stay, on}
use Rattle.rates.specs.Reaching.{number, Balances}
use Rattle.rates.specs.Theorems.{RatesOne}

-- over one link the ratio stays the same
across : (x x' a a' b b' v w : ℕ) → 1 ≤ w → a * x' ≡ x * a' → a * v ≡ b * w → a' * v ≡ b' * w → b * x' ≡ x * b'
across x x' a a' b b' v w h p q r =
    eq_of_mul-eq-mul_right w h (b * x') (x * b') (omega (arith, ap (λ t. t * v) p, ap (λ t. t * x') q, ap (λ t. x * t) r))

module _ (N : Net) (C : Checked N) (Z Z' : List ℕ) (B : Balances N Z) (B' : Balances N Z') where
  pub ratio : (x y : ℕ) → Leads N x y → number Z y * number Z' x ≡ number Z x * number Z' y
  ratio x y (stay e) = subst (λ t. number Z t * number Z' x ≡ number Z x * number Z' t) e refl
  ratio x y (on t k l p o (inl (ei, ej))) =
      let r : number Z l.i * number Z' x ≡ number Z x * number Z' l.i = subst (λ s. number Z s * number Z' x ≡ number Z x * number Z' s) (sym ei) (ratio x t p) in
      subst (λ s. number Z s * number Z' x ≡ number Z x * number Z' s) ej
      (across (number Z x) (number Z' x) _ _ (number Z l.j) (number Z' l.j) l.v l.w (C.linked k l o).gives r (B k l o) (B' k l o))
  ratio x y (on t k l p o (inr (ej, ei))) =
      let r : number Z l.j * number Z' x ≡ number Z x * number Z' l.j = subst (λ s. number Z s * number Z' x ≡ number Z x * number Z' s) (sym ej) (ratio x t p) in
      subst (λ s. number Z s * number Z' x ≡ number Z x * number Z' s) ei
      (across (number Z x) (number Z' x) _ _ (number Z l.i) (number Z' l.i) l.w l.v (C.linked k l o).takes r (sym (B k l o)) (sym (B' k l o)))

-- a number at most 1, and not 0
is_one : (a : ℕ) → 1 ≤ a → a ≤ 1 → a ≡ 1
is_one a h p = omega arith

-- in lowest terms
lowered : (g a b x x' y y' : ℕ) → 1 ≤ g → x ≡ g * a → x' ≡ g * b → y * x' ≡ x * y' → y * b ≡ y' * a
lowered g a b x x' y y' h p q e = eq_of_mul-eq-mul_left g h (y * b) (y' * a) (omega (arith, ap (λ t. y * t) q, ap (λ t. t * y') p))

module _ (n : ℕ) (Z Z' : List ℕ) (g a b : ℕ) (ha : 1 ≤ a) (hb : 1 ≤ b) (each : (i : ℕ) → i < n → (c : ℕ) × (number Z i ≡ a * c) × (number Z' i ≡ b * c))
    (red : (d : ℕ) → ((i : ℕ) → i < n → d ∣ number Z i) → d ≤ 1) (red' : (d : ℕ) → ((i : ℕ) → i < n → d ∣ number Z' i) → d ≤ 1) where
  a_one : a ≡ 1
  a_one = is_one a ha (red a (λ i h. subst (λ t. a ∣ t) (sym (each i h).1) (dvd-mul_right a (each i h).0)))

  b_one : b ≡ 1
  b_one = is_one b hb (red' b (λ i h. subst (λ t. b ∣ t) (sym (each i h).2) (dvd-mul_right b (each i h).0)))

  pub same_at : (i : ℕ) → i < n → number Z i ≡ number Z' i
  same_at i h = (each i h).1 ∙ ap (λ t. t * (each i h).0) (a_one ∙ sym b_one) ∙ sym (each i h).2

pub rates_one_lem : RatesOne
rates_one_lem N C J Z Z' R R' = ext_get_or 0 Z Z' (R.complete ∙ sym R'.complete) (λ i h. all i (let c = R.complete in omega arith))
  where
    x : 1 ≤ number Z 0
    x = R.least 0 C.some

    x' : 1 ≤ number Z' 0
    x' = R'.least 0 C.some

    g : 1 ≤ gcd (number Z 0) (number Z' 0)
    g = gcd_pos (number Z 0) (number Z' 0) x

    ea : number Z 0 ≡ gcd (number Z 0) (number Z' 0) * (number Z 0 / gcd (number Z 0) (number Z' 0))
    ea = whole_left (number Z 0) (number Z' 0)

    eb : number Z' 0 ≡ gcd (number Z 0) (number Z' 0) * (number Z' 0 / gcd (number Z 0) (number Z' 0))
    eb = whole_right (number Z 0) (number Z' 0)

    ha : 1 ≤ number Z 0 / gcd (number Z 0) (number Z' 0)
    ha = right_pos (gcd (number Z 0) (number Z' 0)) _ (subst (λ t. 1 ≤ t) ea x)

    hb : 1 ≤ number Z' 0 / gcd (number Z 0) (number Z' 0)
    hb = right_pos (gcd (number Z 0) (number Z' 0)) _ (subst (λ t. 1 ≤ t) eb x')

    each : (i : ℕ) → i < stations N → (c : ℕ) × (number Z i ≡ number Z 0 / gcd (number Z 0) (number Z' 0) * c) × (number Z' i ≡ number Z' 0 / gcd (number Z 0) (number Z' 0) * c)
    each i h =
        common _ _ (number Z i) (number Z' i) ha hb (parts_coprime (gcd_is (number Z 0) (number Z' 0)) g ea eb)
        (lowered _ _ _ (number Z 0) (number Z' 0) (number Z i) (number Z' i) g ea eb (ratio N C Z Z' R.balanced R'.balanced 0 i (J i h)))

    all : (i : ℕ) → i < stations N → number Z i ≡ number Z' i
    all = same_at (stations N) Z Z' (gcd (number Z 0) (number Z' 0)) _ _ ha hb each R.reduced R'.reduced
