-- How large lengths and the fastest pace can be. Assumes nothing.
use Rattle.std.proofs.Common.{◌≡◌, ℕ, suc, ◌+◌, ◌-◌, ◌*◌, ◌/◌, ◌≤◌, List, [], ◌∷◌, map, length, ℤ, pos, ◌+ℤ◌, ◌-ℤ◌, ◌*ℤ◌, neg_ℤ, nat_abs, Some, sym, ap, subst, mul-le-mul, mul-le-mul_left, div-le_self, arith}
use native.Mathlib.Nat.{le_of_dvd}
use lib.ListN.{length-map}
use borrow.Author.Differences.{abs_is, sum_is_lem, neg_is}
use Rattle.handover.specs.Gcd.{gcd}
use Rattle.handover.proofs.Gcd.{gcd_is}
use Rattle.handover.proofs.Rates.{common}
use Rattle.handover.proofs.Positive.{right_pos}
use Rattle.rules.specs.Net.{Link, Net, stations, duration, rate, Open, Sound}
use Rattle.rules.specs.Steps.{Step, forward, back, own, Has, Chain, or_else, no_link, worth, grain, leads_to, shares, time, ticks, shares_of, time_of, ticks_of}
use Rattle.rules.specs.Ranges.{InRange, Sized, StepsSized, ChainsSized, FastestInRange}
use Rattle.rules.proofs.Differences.{Is, is_pos, is_neg, is_sum, is_less, is_times}
use Rattle.handover.proofs.Once.{once_few}
use Rattle.rules.proofs.Existence.{chain_inside}
use Rattle.rules.proofs.Fastest.{fastest_named_lem}

within : (z : ℤ) (p n m : ℕ) → Is z p n → p ≤ n + m → n ≤ p + m → nat_abs z ≤ m
within z p n m h k l = omega (arith, abs_is z)

link_sized : (A B D Z S d : ℕ) → A ≤ 1_000_000 → B ≤ 10_000_000_000 → D ≤ 10_000 → Z ≤ 10_000 → S ≤ 100_000_000 → d ≤ Z →
    Sized (pos Z -ℤ pos S -ℤ pos d) D (pos (B * D) +ℤ pos A *ℤ (pos Z -ℤ pos S -ℤ pos d)) 1
link_sized A B D Z S d hA hB hD hZ hS hd =
    let z = pos Z -ℤ pos S -ℤ pos d in
    let a = is_less (pos Z -ℤ pos S) (pos d) (Z + 0) (0 + S) d 0 (is_less (pos Z) (pos S) Z 0 S 0 (is_pos Z) (is_pos S)) (is_pos d) in
    let b = is_sum (pos (B * D)) (pos A *ℤ z) _ _ _ _ (is_pos (B * D)) (is_times A z _ _ a) in
    let e : B * D ≤ 10_000_000_000 * 10_000 = mul-le-mul hB hD in
    let f : A * Z ≤ 1_000_000 * 10_000 = mul-le-mul hA hZ in
    let g : A * S ≤ 1_000_000 * 100_000_000 = mul-le-mul hA hS in
    let h = mul-le-mul_left A hd in
    record {
      shares = within z _ _ _ a (omega arith) (omega arith);
      time = omega arith;
      ticks = within (pos (B * D) +ℤ pos A *ℤ z) _ _ _ b (omega arith) (omega arith);
    }

own_sized : (A B D Z : ℕ) → A ≤ 1_000_000 → B ≤ 10_000_000_000 → D ≤ 10_000 → Z ≤ 10_000 → Sized (neg_ℤ (pos Z)) D (pos (B * D) +ℤ pos A *ℤ neg_ℤ (pos Z)) 1
own_sized A B D Z hA hB hD hZ =
    let z = neg_ℤ (pos Z) in
    let a = is_neg (pos Z) Z 0 (is_pos Z) in
    let b = is_sum (pos (B * D)) (pos A *ℤ z) _ _ _ _ (is_pos (B * D)) (is_times A z _ _ a) in
    let e : B * D ≤ 10_000_000_000 * 10_000 = mul-le-mul hB hD in
    let f : A * Z ≤ 1_000_000 * 10_000 = mul-le-mul hA hZ in
    record {
      shares = within z _ _ _ a (omega arith) (omega arith);
      time = omega arith;
      ticks = within (pos (B * D) +ℤ pos A *ℤ z) _ _ _ b (omega arith) (omega arith);
    }

worth_sized : (n g d : ℕ) → n ≤ 10_000 → d ≤ 10_000 → n / g * d ≤ 100_000_000
worth_sized n g d h k =
    let q : n / g ≤ 10_000 = omega (arith, div-le_self n g) in
    let p : n / g * d ≤ 10_000 * 10_000 = mul-le-mul q k in
    omega arith

module _ (N : Net) (S : Sound N) (R : InRange N) where
  ForwardSized : Link → Type 0
  ForwardSized l =
      let z = pos (rate N l.j) -ℤ pos (worth N l l.u) -ℤ pos (grain N l) in
      Sized z (duration N l.i) (pos (N.B * duration N l.i) +ℤ pos N.A *ℤ z) 1

  BackSized : Link → Type 0
  BackSized l =
      let z = pos (rate N l.i) -ℤ pos (worth N l (or_else 0 l.c - l.u)) -ℤ pos (grain N l) in
      Sized z (duration N l.j) (pos (N.B * duration N l.j) +ℤ pos N.A *ℤ z) 1

  forward_sized : (k : ℕ) (l : Link) → Open N k l → ForwardSized l
  unfolding ForwardSized
  forward_sized k l e =
      let K = S.linked k l e in
      let d = le_of_dvd (S.recurring l.j K.to_station) (gcd_is (rate N l.i) (rate N l.j)).right in
      let Z = R.recurring l.j K.to_station in
      link_sized N.A N.B (duration N l.i) (rate N l.j) (worth N l l.u) (grain N l) R.share R.unit (R.lasting l.i K.from_station) Z
      (worth_sized l.u (gcd l.w l.v) (grain N l) (R.linked k l e).stock (omega arith)) d

  back_sized : (k : ℕ) (l : Link) (c : ℕ) → Open N k l → l.c ≡ Some c → BackSized l
  unfolding BackSized
  back_sized k l c e f =
      let K = S.linked k l e in
      let d = le_of_dvd (S.recurring l.i K.from_station) (gcd_is (rate N l.i) (rate N l.j)).left in
      let Z = R.recurring l.i K.from_station in
      let room : or_else 0 l.c - l.u ≤ 10_000 = omega (arith, ap (or_else 0) f, (R.linked k l e).room c f) in
      link_sized N.A N.B (duration N l.j) (rate N l.i) (worth N l (or_else 0 l.c - l.u)) (grain N l) R.share R.unit (R.lasting l.j K.to_station) Z
      (worth_sized (or_else 0 l.c - l.u) (gcd l.w l.v) (grain N l) room (omega arith)) d

  step_sized : (s : Step) → Has N s → Sized (shares N s) (time N s) (ticks N s) 1
  unfolding ForwardSized BackSized
  step_sized (forward k) (l, e) = subst ForwardSized (sym (ap (or_else no_link) e)) (forward_sized k l e)
  step_sized (back k) (l, c, e, f) = subst BackSized (sym (ap (or_else no_link) e)) (back_sized k l c e f)
  step_sized (own i) h = own_sized N.A N.B (duration N i) (rate N i) R.share R.unit (R.lasting i h) (R.recurring i h)

  more_sized : (a b y z : ℤ) (t u k : ℕ) → Sized a t y 1 → Sized b u z k → Sized (a +ℤ b) (t + u) (y +ℤ z) (suc k)
  more_sized a b y z t u k p q =
      record {
        shares = omega (arith, p.shares, q.shares, abs_is a, abs_is b, abs_is (a +ℤ b), sum_is_lem a b);
        time = omega (arith, p.time, q.time);
        ticks = omega (arith, p.ticks, q.ticks, abs_is y, abs_is z, abs_is (y +ℤ z), sum_is_lem y z);
      }

  chain_sized : (c : List Step) (x y : ℕ) → Chain N x c y → Sized (shares_of N c) (time_of N c) (ticks_of N c) (length c)
  chain_sized [] x y e = record { shares = omega arith; time = omega arith; ticks = omega arith }
  chain_sized (s ∷ c) x y (h, e, r) = more_sized (shares N s) (shares_of N c) (ticks N s) (ticks_of N c) (time N s) (time_of N c) (length c) (step_sized s h) (chain_sized c (leads_to N s) y r)

pub steps_sized_lem : StepsSized
steps_sized_lem = step_sized

pub chains_sized_lem : ChainsSized
chains_sized_lem N S R x y c = chain_sized N S R c x y

-- the parts of a reduced fraction are no larger than those of any other of its value
no_larger : (A B p q k : ℕ) → 1 ≤ q → p ≡ A * k → q ≡ B * k → (A ≤ p) × (B ≤ q)
no_larger A B p q k h e f =
    let hk : 1 ≤ k = right_pos B k (omega arith) in
    (omega (arith, mul-le-mul_left A hk), omega (arith, mul-le-mul_left B hk))

pub fastest_in_range_lem : FastestInRange
fastest_in_range_lem N S R A B F =
    let f = fastest_named_lem N S R.some A B F in
    let c = f.0 in
    let M = f.1 in
    let x = M.circuit.closed.0 in
    let C = M.circuit.closed.1 in
    let few = once_few (stations N) (map (leads_to N) c) M.circuit.once (chain_inside N S c x x C) in
    let z = chain_sized N S R c x x C in
    let q = common A B (time_of N c) M.less F.share F.unit F.reduced (omega (arith, M.even)) in
    let b = no_larger A B (time_of N c) M.less q.0 M.some q.1 q.2 in
    let n : length c ≤ 64 = omega (arith, R.few, length-map c (leads_to N)) in
    (omega (arith, z.time), omega (arith, z.shares, ap nat_abs M.shares, abs_is (neg_ℤ (pos M.less)), neg_is (pos M.less)))
