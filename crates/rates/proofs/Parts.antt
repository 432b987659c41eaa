-- Numbers for the stations that are reached: what balances the links is a whole multiple of them. Assumes nothing.
use Rattle.std.proofs.Common.{◌≡◌, ℕ, ◌*◌, ◌/◌, ◌<◌, ◌≤◌, ◌⊎◌, List, map, length, take, Some, None, sym, refl, ap, ◌∙◌, subst, inl, inr, mul-le-mul_right, arith}
use Prim.Native.Nat.{◌∣◌}
use native.Mathlib.Nat.{eq_of_mul-eq-mul_left, eq_of_mul-eq-mul_right, mul-div_cancel', le_of_dvd, pos_of_dvd_of_pos, dvd-mul_right}
use Rattle.std.proofs.lemmas.Bool.{cases_eq, cases_lt}
use Rattle.std.proofs.lemmas.List.{get_or_past, get_or-take, get_or-map, length-take-le}
use Rattle.handover.specs.Gcd.{gcd}
use Rattle.handover.proofs.Gcd.{gcd_is}
use Rattle.handover.proofs.Positive.{left_pos, right_pos}
use Rattle.handover.proofs.Rates.{common, parts_coprime, whole_left, whole_right, gcd_pos}
use Rattle.rules.specs.Net.{Net, stations}
use Rattle.rules.specs.Ranges.{Checked}
use Rattle.rules.specs.Rates.{Joined, Rated, with_rates, NoRates}
use Rattle.rates.specs.declared.Lead.{Lead}
use Rattle.rates.specs.Reaching.{number, Balances, AllBalanced, parts, factor, end, Onward, Reached, Part}
use Rattle.rates.proofs.Links.{Terms, terms_of, balance_of, led_reached}

-- what the code computes: the end and the factor are the parts of the two numbers that their gcd leaves
module _ (z : List ℕ) (s : Lead) (T : Terms s) (from : 1 ≤ number z s.from) where
  pub parts_pos : 1 ≤ parts z s
  parts_pos = omega (arith, T.takes, mul-le-mul_right s.consumed from)

  pub factor_pos : 1 ≤ factor z s
  factor_pos = right_pos (gcd (parts z s) s.produced) (factor z s) (omega (arith, T.gives, whole_right (parts z s) s.produced))

  pub end_pos : 1 ≤ end z s
  end_pos = right_pos (gcd (parts z s) s.produced) (end z s) (omega (arith, parts_pos, whole_left (parts z s) s.produced))

  -- numbers that balance the link are multiples of them
  pub factor_of : (Y : List ℕ) (c : ℕ) → number Y s.from ≡ c * number z s.from → number Y s.from * s.consumed ≡ number Y s.to * s.produced →
      (c' : ℕ) × (number Y s.to ≡ end z s * c') × (c ≡ factor z s * c')
  factor_of Y c y b =
      let g = gcd (parts z s) s.produced in
      let g_pos = gcd_pos (parts z s) s.produced parts_pos in
      let left = whole_left (parts z s) s.produced in
      let right = whole_right (parts z s) s.produced in
      common (end z s) (factor z s) (number Y s.to) c end_pos factor_pos (parts_coprime (gcd_is (parts z s) s.produced) g_pos left right)
      (eq_of_mul-eq-mul_left g g_pos (number Y s.to * factor z s) (c * end z s) (omega (arith, ap (λ t. number Y s.to * t) right, ap (λ t. c * t) left, ap (λ t. t * s.consumed) y)))

times : (y c m c' x x' : ℕ) → y ≡ c * x → c ≡ m * c' → x' ≡ x * m → y ≡ c' * x'
times y c m c' x x' p q r = omega (arith, ap (λ t. t * x) q, ap (λ t. c' * t) r)

-- only what was reached before, and the new end, are reached now
kept : (x x' m : ℕ) → x' ≡ x * m → 1 ≤ x' → 1 ≤ x
kept x x' m e h = left_pos x m (omega arith)

pub risen : (x x' m : ℕ) → x' ≡ x * m → 1 ≤ m → 1 ≤ x → 1 ≤ x'
risen x x' m e h p = omega (arith, mul-le-mul_right m p)

module _ (N : Net) (z z' : List ℕ) (s : Lead) (C : Checked N) (P : Part N z) where
  pub part_more : Onward N z (Some s) → Reached z s z' (Some tt) → Part N z'
  part_more (k, l, o, (way, from, to)) (long, at_end, others, most) =
      record {
        many = long ∙ P.many;
        begun = risen _ _ _ (others 0 not_first) (factor_pos z s t from) P.begun;
        most = most;
        whole = λ Y B. all Y B (P.whole Y B);
      }
    where
      t : Terms s
      t = terms_of N k l o s C way

      not_first : 0 ≡ s.to → ⊥
      not_first e = let b = P.begun in let q : number z 0 ≡ 0 = subst (λ j. number z j ≡ 0) (sym e) to in omega arith

      all : (Y : List ℕ) → Balances N Y → ((c : ℕ) × ((i : ℕ) → 1 ≤ number z i → number Y i ≡ c * number z i)) → (c : ℕ) × ((i : ℕ) → 1 ≤ number z' i → number Y i ≡ c * number z' i)
      all Y B (c, w) = (f.0, λ i h. each i h (cases_eq i s.to))
        where
          f : (c' : ℕ) × (number Y s.to ≡ end z s * c') × (c ≡ factor z s * c')
          f = factor_of z s t from Y c (w s.from from) (balance_of N k l o s Y B way)

          each : (i : ℕ) → 1 ≤ number z' i → (i ≡ s.to) ⊎ (i ≡ s.to → ⊥) → number Y i ≡ f.0 * number z' i
          each i h (inl e) = subst (λ j. number Y j ≡ f.0 * number z' j) (sym e) (f.1 ∙ omega (arith, ap (λ j. f.0 * j) at_end))
          each i h (inr e) = times _ c (factor z s) f.0 _ _ (w i (kept _ _ _ (others i e) h)) f.2 (others i e)

-- the rates are a multiple of the numbers
multiple : (N : Net) (z Y : List ℕ) → Checked N → Part N z → Rated (with_rates N Y) → (c : ℕ) × (1 ≤ c) × ((i : ℕ) → 1 ≤ number z i → number Y i ≡ c * number z i)
multiple N z Y C P R =
    let (c, w) = P.whole Y R.balanced in
    (c, left_pos c (number z 0) (omega (arith, w 0 P.begun, R.least 0 C.some)), w)

-- a rate of a table is at most 10,000, past its end too
most_of : (N : Net) (Y : List ℕ) → Rated (with_rates N Y) → (i : ℕ) → number Y i ≤ 10_000
most_of N Y R i = at (cases_lt i (stations N))
  where
    at : (i < stations N) ⊎ (stations N ≤ i) → number Y i ≤ 10_000
    at (inl h) = R.most i h
    at (inr h) = let e : number Y i ≡ 0 = get_or_past Y i 0 (let c = R.complete in omega arith) in omega arith

too_many : (y c a : ℕ) → y ≡ c * a → 1 ≤ c → y ≤ 10_000 → 10_000 < a → ⊥
too_many y c a e h p q = omega (arith, mul-le-mul_right a h)

pub over : (N : Net) (z z' : List ℕ) (s : Lead) → Checked N → Part N z → Onward N z (Some s) → Reached z s z' None → NoRates N
over N z z' s C P (k, l, o, (way, from, to)) r Y R = at (multiple N z Y C P R) r
  where
    at : (c : ℕ) × (1 ≤ c) × ((i : ℕ) → 1 ≤ number z i → number Y i ≡ c * number z i) → (10_000 < end z s) ⊎ ((i : ℕ) × (10_000 < number z i * factor z s)) → ⊥
    at (c, c_pos, w) r =
        let f = factor_of z s (terms_of N k l o s C way) from Y c (w s.from from) (balance_of N k l o s Y R.balanced way) in
        let some = right_pos (factor z s) f.0 (omega (arith, f.2)) in
        elim r [
          | inl h ↦ too_many (number Y s.to) f.0 (end z s) (omega (arith, f.1)) some (most_of N Y R s.to) h
          | inr h ↦ too_many (number Y h.0) f.0 (number z h.0 * factor z s) (times _ c (factor z s) f.0 _ _ (w h.0 (left_pos (number z h.0) (factor z s) (omega arith))) f.2 refl) some (most_of N Y R h.0) h.1
        ]

-- where both numbers are multiplied by d
cancel : (d a b x y v u : ℕ) → 1 ≤ d → x ≡ d * a → y ≡ d * b → x * v ≡ y * u → a * v ≡ b * u
cancel d a b x y v u h p q e = eq_of_mul-eq-mul_left d h (a * v) (b * u) (omega (arith, ap (λ t. t * v) p, ap (λ t. t * u) q))

-- all are reached at last
module _ (N : Net) (z : List ℕ) (C : Checked N) (J : Joined N) (P : Part N z) (O : Onward N z None) where
  all_reached : (y : ℕ) → y < stations N → 1 ≤ number z y
  all_reached y h = led_reached N z O 0 y (J y h) P.begun

  -- where these do not balance the links, nothing does
  pub unbalanced : (AllBalanced N z → ⊥) → NoRates N
  unbalanced uneven Y R =
      let (c, c_pos, w) = multiple N z Y C P R in
      uneven (λ k l o.
      let i = all_reached _ (C.linked k l o).from_station in
      let j = all_reached _ (C.linked k l o).to_station in
      (i, j, cancel c _ _ _ _ _ _ c_pos (w l.i i) (w l.j j) (R.balanced k l o)))

  -- divided by a common divisor they still balance the links, so it is 1
  module _ (B : Balances N z) (d : ℕ) (D : (i : ℕ) → i < stations N → d ∣ number z i) where
    d_pos : 1 ≤ d
    d_pos = pos_of_dvd_of_pos (D 0 C.some) P.begun

    divided : List ℕ
    divided = map (λ x. x / d) z

    divided_at : (i : ℕ) → i < stations N → d * number divided i ≡ number z i
    unfolding divided
    divided_at i h =
        let long = P.many in let few = C.few in
        let in' : i < length z = omega arith in
        ap (λ t. d * t) (get_or-map (λ x. x / d) z i 0 0 in') ∙ mul-div_cancel' d (D i h)

    divided_balances : Balances N divided
    divided_balances k l o = cancel d _ _ _ _ _ _ d_pos (sym (divided_at _ (C.linked k l o).from_station)) (sym (divided_at _ (C.linked k l o).to_station)) (B k l o)

    one : (x y c : ℕ) → 1 ≤ x → d * y ≡ x → y ≡ c * x → d ≤ 1
    one x y c h p q =
        let e : d * c ≡ 1 = eq_of_mul-eq-mul_right x h (d * c) 1 (omega (arith, ap (λ t. d * t) q)) in
        omega (arith, le_of_dvd (omega arith) (subst (λ t. d ∣ t) e (dvd-mul_right d c)))

    pub reduced_at : d ≤ 1
    reduced_at = let p = P.whole divided divided_balances in one (number z 0) (number divided 0) p.0 P.begun (divided_at 0 C.some) (p.1 0 P.begun)

  -- where these balance the links, they are the rates
  pub balances_rates : Balances N z → Rated (with_rates N (take (stations N) z))
  balances_rates B =
      record {
        complete = length-take-le (stations N) z (let long = P.many in let few = C.few in omega arith);
        least = λ i h. subst (λ t. 1 ≤ t) (sym (front i h)) (all_reached i h);
        most = λ i h. subst (λ t. t ≤ 10_000) (sym (front i h)) (P.most i);
        balanced = λ k l o. ap (λ t. t * l.v) (front _ (C.linked k l o).from_station) ∙ B k l o ∙ ap (λ t. t * l.w) (sym (front _ (C.linked k l o).to_station));
        reduced = λ d D. reduced_at B d (λ i h. subst (λ t. d ∣ t) (front i h) (D i h));
      }
    where
      front : (i : ℕ) → i < stations N → number (take (stations N) z) i ≡ number z i
      front i h = get_or-take (stations N) z i 0 h

  pub balanced_rates : AllBalanced N z → Rated (with_rates N (take (stations N) z))
  balanced_rates E = balances_rates (λ k l o. (E k l o).2)
