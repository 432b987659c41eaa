-- The fastest pace. Assumes nothing.
use Rattle.std.proofs.Common.{◌≡◌, ℕ, zero, suc, ◌+◌, ◌-◌, ◌*◌, ◌/◌, ◌<◌, ◌≤◌, ◌⊎◌, List, [], ◌∷◌, ℤ, pos, neg_ℤ, refl, ap, subst₂, inl, inr, add-zero, mul-le-mul_right, mul-le-mul_left, le-div_iff_mul-le, div-le_self, arith}
use native.Mathlib.Nat.{le_of_mul-le-mul_left, mul-div-le, dvd-mul_left}
use lib.IntN.{+ℤ_idr}
use borrow.Author.Differences.{up, down, lt_out, same_in, below_in, neg_is, le_out}
use Rattle.std.proofs.lemmas.Bool.{cases_order}
use Rattle.std.proofs.lemmas.Int.{by_lt_z}
use Rattle.handover.specs.Gcd.{gcd, Coprime}
use Rattle.handover.proofs.Gcd.{gcd_is}
use Rattle.handover.proofs.Rates.{whole_left, whole_right, gcd_pos, parts_coprime, common}
use Rattle.handover.proofs.Positive.{right_pos}
use Rattle.rules.specs.Net.{Net, Sound, stations, duration, rate, at_pace_lem, whole}
use Rattle.rules.specs.Rules.{HasTimetable}
use Rattle.rules.specs.Steps.{Step, own, Circuit, PairAbove, PairCircuit, shares_of, time_of, ticks_of}
use Rattle.rules.specs.Paces.{Fastest, Names, SlowerToo, FastestWhen, FastestOrPair, FastestNamed, FastestOne}
use Rattle.rules.proofs.Chains.{circuit_forbids_lem}
use Rattle.rules.proofs.Paces.{circuit_at, sound_at, pair_at, pair_forbids_lem, pace_floor_lem}
use Rattle.handover.proofs.Once.{upto}
use Rattle.rules.proofs.Existence.{least_or_circuit_lem, circuit_time}

-- A circuit at a pace, told by its pair: above zero, or not

module _ (N : Net) (S : Sound N) (A B : ℕ) (hA : 1 ≤ A) (hB : 1 ≤ B) where
  -- where there is a timetable, no circuit is above zero
  held : HasTimetable (at_pace_lem N A B) → (c : List Step) → Circuit N c → B * time_of N c + A * up (shares_of N c) ≤ A * down (shares_of N c)
  held (T, F, K) c C =
      let p = pair_at N A B c in
      by_lt_z (pos 0) (ticks_of (at_pace_lem N A B) c)
      (λ above. absurd (circuit_forbids_lem (at_pace_lem N A B) (sound_at N A B S hA hB) c (circuit_at N A B c C) above T F K))
      (λ low. omega (arith, le_out (ticks_of (at_pace_lem N A B) c) (pos 0) low))

  -- else some circuit is
  pub settled : HasTimetable (at_pace_lem N A B) ⊎ ((c : List Step) × Circuit N c × (A * down (shares_of N c) < B * time_of N c + A * up (shares_of N c)))
  settled =
      elim (least_or_circuit_lem (at_pace_lem N A B) (sound_at N A B S hA hB)) [
        | inl l ↦ inl (whole l.0, l.1.fits, l.1.keeps)
        | inr c ↦ inr (
          c.0,
          circuit_at (at_pace_lem N A B) N.A N.B c.0 c.1,
          (let p = pair_at N A B c.0 in omega (arith, lt_out (pos 0) (ticks_of (at_pace_lem N A B) c.0) c.2)),
        )
      ]

-- a time t that is worth at most the shares e at A / B is so at every slower pace
slower : (A B A' B' t p n : ℕ) → 1 ≤ A → 1 ≤ B → A * B' ≤ A' * B → B * t + A * p ≤ A * n → A' * n < B' * t + A' * p → ⊥
slower A B A' B' t p n hA hB o h k =
    let l : p ≤ n = le_of_mul-le-mul_left {k = A} (omega arith) hA in
    apart (n - p) (omega arith)
  where
    apart : (e : ℕ) → n ≡ p + e → ⊥
    apart e q =
        let h1 : B * t ≤ A * e = omega (arith, ap (λ z. A * z) q) in
        let k1 : A' * e < B' * t = omega (arith, ap (λ z. A' * z) q) in
        omega (arith, mul-le-mul_left B' h1, mul-le-mul_right e o, mul-le-mul_left B k1)

pub slower_too_lem : SlowerToo
slower_too_lem N S A B A' B' hA hB hA' hB' o has =
    elim (settled N S A' B' hA' hB') [
      | inl t ↦ t
      | inr c ↦ absurd (slower A B A' B' (time_of N c.0) (up (shares_of N c.0)) (down (shares_of N c.0)) hA hB o (held N S A B hA hB has c.0 c.1) c.2)
    ]

floored : (A B a b A' B' : ℕ) → 1 ≤ a → A * a ≡ B * b → B' * b ≤ A' * a → A * B' ≤ A' * B
floored A B a b A' B' ha e h = le_of_mul-le-mul_left {k = a} (omega (arith, mul-le-mul_left B h, ap (λ z. B' * z) e)) ha

pub fastest_when_lem : FastestWhen
fastest_when_lem N S A B hA hB co has c M =
    record {
      share = hA;
      unit = hB;
      reduced = co;
      has = has;
      smallest = λ A' B' hA' hB' t. floored A B M.less (time_of N c) A' B' M.some M.even ((pace_floor_lem N S c M.circuit M.less (time_of N c) M.some M.shares refl A' B' hA' hB').1 t);
    }

as_one : (A B A' B' c : ℕ) → A' ≡ A * c → B' ≡ B * c → Coprime A' B' → (A ≡ A') × (B ≡ B')
as_one A B A' B' c ea eb co =
    let one : c ≡ 1 = co c (rw ea (dvd-mul_left c A)) (rw eb (dvd-mul_left c B)) in
    (omega (arith, ap (λ k. A * k) one), omega (arith, ap (λ k. B * k) one))

pub fastest_one_lem : FastestOne
fastest_one_lem N A B A' B' F F' =
    let e : A' * B ≡ B' * A = omega (arith, F.smallest A' B' F'.share F'.unit F'.has, F'.smallest A B F.share F.unit F.has) in
    let z = common A B A' B' F.share F.unit F.reduced e in
    as_one A B A' B' z.0 z.1 z.2 F'.reduced

-- What a circuit above zero says: its pair is above (0, 0), or its shares are below 0 and it names a slower pace
pub told : (A B t : ℕ) (s : ℤ) → 1 ≤ A → A * down s < B * t + A * up s → PairAbove s t ⊎ ((a : ℕ) × (1 ≤ a) × (s ≡ neg_ℤ (pos a)) × (A * a < B * t))
told A B t s hA h =
    elim (cases_order (up s) (down s)) [
      | inl e ↦ inl (inr (same_in s (pos 0) (omega arith), right_pos B t (omega (arith, ap (λ k. A * k) e))))
      | inr (inl l) ↦ inr (down s - up s, omega arith, same_in s (neg_ℤ (pos (down s - up s))) (omega (arith, neg_is (pos (down s - up s)))), apart (down s - up s) (omega arith))
      | inr (inr l) ↦ inl (inl (below_in (pos 0) s (omega arith)))
    ]
  where
    apart : (a : ℕ) → down s ≡ up s + a → A * a < B * t
    apart a e = omega (arith, ap (λ k. A * k) e)

-- Two fractions with denominators up to Q differ by 1 / Q^2 or more
pub rises : (Q A B t a : ℕ) → 1 ≤ B → 1 ≤ a → a ≤ Q → B ≤ Q → A * a < B * t → Q * Q * A / B < Q * Q * t / a
rises Q A B t a hB ha la lB h =
    let k = Q * Q * A / B in
    let f : k * B ≤ Q * Q * A = omega (arith, mul-div-le (Q * Q * A) B) in
    (le-div_iff_mul-le {x = suc k} {y = Q * Q * t} ha).1 (le_of_mul-le-mul_left {k = B} (over k f) hB)
  where
    over : (k : ℕ) → k * B ≤ Q * Q * A → B * (suc k * a) ≤ B * (Q * Q * t)
    over k f = omega (arith, mul-le-mul_right a f, mul-le-mul_left (Q * Q) h, mul-le-mul_left a lB, mul-le-mul_right Q la)

same_fraction : (g A1 B1 A B : ℕ) → A ≡ g * A1 → B ≡ g * B1 → A1 * B ≡ B1 * A
same_fraction g A1 B1 A B ea eb = omega (arith, ap (λ z. z * B1) ea, ap (λ z. A1 * z) eb)

-- the pace that a circuit names, reduced
named : (N : Net) (c : List Step) → Circuit N c → (g A1 B1 A B : ℕ) → A ≡ g * A1 → B ≡ g * B1 → 1 ≤ B → shares_of N c ≡ neg_ℤ (pos B) → time_of N c ≡ A → Names N c A1 B1
named N c C g A1 B1 A B ea eb hB es et =
    record { circuit = C; less = B; some = hB; shares = es; even = omega (arith, same_fraction g A1 B1 A B ea eb, ap (λ z. B1 * z) et) }

pub in_lowest : (N : Net) → Sound N → (c : List Step) → Circuit N c → (g A1 B1 A B : ℕ) → A ≡ g * A1 → B ≡ g * B1 → Coprime A1 B1 → 1 ≤ A → 1 ≤ B → HasTimetable (at_pace_lem N A B) → shares_of N c ≡ neg_ℤ (pos B) → time_of N c ≡ A → Fastest N A1 B1
in_lowest N S c C g A1 B1 A B ea eb co hA hB has es et =
    let h1 : 1 ≤ A1 = right_pos g A1 (omega arith) in
    let h2 : 1 ≤ B1 = right_pos g B1 (omega arith) in
    fastest_when_lem N S A1 B1 h1 h2 co (slower_too_lem N S A B A1 B1 hA hB h1 h2 (omega (arith, same_fraction g A1 B1 A B ea eb)) has) c (named N c C g A1 B1 A B ea eb hB es et)

abbrev pub Found : Net → Type 0
Found N = (A : ℕ) × (B : ℕ) × (c : List Step) × Fastest N A B × Names N c A B

pub reduced : (N : Net) → Sound N → (c : List Step) → Circuit N c → (A B : ℕ) → 1 ≤ A → 1 ≤ B → HasTimetable (at_pace_lem N A B) → shares_of N c ≡ neg_ℤ (pos B) → time_of N c ≡ A → Found N
reduced N S c C A B hA hB has es et =
    let g = gcd A B in (
      A / g,
      B / g,
      c,
      in_lowest N S c C g (A / g) (B / g) A B (whole_left A B) (whole_right A B) (parts_coprime (gcd_is A B) (gcd_pos A B hA) (whole_left A B) (whole_right A B)) hA hB has es et,
      named N c C g (A / g) (B / g) A B (whole_left A B) (whole_right A B) hB es et,
    )

-- each new pace is no smaller than the first, A0 / B0
still : (A0 B0 A B t a : ℕ) → 1 ≤ B → A0 * B ≤ A * B0 → A * a < B * t → A0 * a ≤ t * B0
still A0 B0 A B t a hB o h = le_of_mul-le-mul_left {k = B} (omega (arith, mul-le-mul_right a o, mul-le-mul_left B0 h)) hB

small : (A0 B0 D t a : ℕ) → 1 ≤ A0 → t ≤ D → A0 * a ≤ t * B0 → a ≤ D * B0
small A0 B0 D t a hA h k = omega (arith, mul-le-mul_right a hA, mul-le-mul_right B0 h)

module _ (N : Net) (S : Sound N) (A0 B0 D Q : ℕ) (hA0 : 1 ≤ A0) (eQ : Q ≡ D * B0) (most : (c : List Step) → Circuit N c → time_of N c ≤ D) where
  -- the pace A / B that the circuit c names is too fast, or it is the fastest
  climb : (fuel A B : ℕ) (c : List Step) → Circuit N c → shares_of N c ≡ neg_ℤ (pos B) → time_of N c ≡ A → 1 ≤ A → 1 ≤ B → B ≤ Q → A0 * B ≤ A * B0 → Q * Q * D < fuel + Q * Q * A / B → Found N ⊎ PairCircuit N
  climb zero A B c C es et hA hB lB o f = absurd (let lA : A ≤ D = omega (arith, most c C) in omega (arith, div-le_self (Q * Q * A) B, mul-le-mul_left (Q * Q) lA))
  climb (suc fuel) A B c C es et hA hB lB o f =
      elim (settled N S A B hA hB) [
        | inl has ↦ inl (reduced N S c C A B hA hB has es et)
        | inr d ↦
            elim (told A B (time_of N d.0) (shares_of N d.0) hA d.2) [
              | inl above ↦ inr (d.0, d.1, above)
              | inr r ↦
                  (let t = time_of N d.0 in
                  let a = r.0 in
                  let st = still A0 B0 A B t a hB o r.3 in
                  let la : a ≤ Q = omega (arith, small A0 B0 D t a hA0 (most d.0 d.1) st) in
                  climb fuel t a d.0 d.1 r.2 refl (right_pos B t (omega (arith, r.3))) r.1 la st
                  (omega (arith, rises Q A B t a hB r.1 la lB r.3)))
            ]
      ]

-- from the circuit of station 0 alone
found : (N : Net) → Sound N → 1 ≤ stations N → Found N ⊎ PairCircuit N
found N S h =
    let D = upto (duration N) (stations N) in
    let c : List Step = own 0 ∷ [] in
    let C : Circuit N c = record { closed = (0, (h, refl, refl)); once = (tt, tt) } in
    let hA = S.lasting 0 h in
    let hB = S.recurring 0 h in
    let l : duration N 0 ≤ D = omega (arith, circuit_time N S c C) in
    let Q = D * rate N 0 in
    climb N S (duration N 0) (rate N 0) D Q hA refl (circuit_time N S) (suc (Q * Q * D)) (duration N 0) (rate N 0) c C (+ℤ_idr (neg_ℤ (pos (rate N 0)))) (add-zero (duration N 0)) hA hB
    (omega (arith, mul-le-mul_right (rate N 0) hA, mul-le-mul_right (rate N 0) l)) (omega arith) (omega arith)

pub fastest_or_pair_lem : FastestOrPair
fastest_or_pair_lem N S h = elim (found N S h) [ inl f ↦ inl (f.0, f.1, f.3) | inr c ↦ inr c ]

pub fastest_named_lem : FastestNamed
fastest_named_lem N S h A B F =
    elim (found N S h) [
      | inl f ↦
          (let e = fastest_one_lem N f.0 f.1 A B f.3 F in
          (f.2, subst₂ (λ x y. Names N f.2 x y) e.0 e.1 f.4))
      | inr c ↦ absurd (pair_forbids_lem N S c.0 c.1 c.2 A B F.share F.unit F.has.0 F.has.1 F.has.2)
    ]
