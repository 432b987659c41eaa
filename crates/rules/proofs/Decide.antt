-- A timetable keeps the rules exactly when it keeps every step. Assumes nothing.
use Rattle.std.proofs.Common.{◌≡◌, ℕ, ◌+◌, ◌-◌, ◌*◌, ◌/◌, ◌≤◌, ◌↔◌, pos, ◌+ℤ◌, ◌-ℤ◌, ◌*ℤ◌, neg_ℤ, ◌≤ℤ◌, Some, sym, refl, ap, subst, arith}
use Rattle.handover.specs.Gcd.{gcd}
use Rattle.handover.proofs.Gcd.{gcd_is, gcd_unique}
use Rattle.handover.proofs.Timetable.{timetable}
use Rattle.rules.specs.Net.{Link, Net, Timetable, duration, rate, start, Open, SoundLink, Sound, Fits}
use Rattle.rules.specs.Rules.{Keeps, period, lasts, begins, ends, begun, ended}
use Rattle.rules.specs.Steps.{Step, forward, back, own, Has, Kept, or_else, worth, grain}
use Rattle.rules.specs.Theorems.{StepsDecide}
use Rattle.rules.proofs.Links.{link_is}
use Rattle.rules.proofs.Differences.{is_pos, is_neg, is_sum, is_less, is_times, is_le}

gcd_comm : (a b : ℕ) → gcd a b ≡ gcd b a
gcd_comm a b =
    let g = gcd_is b a in
    gcd_unique (gcd_is a b) (record { left = g.right; right = g.left; greatest = λ k p q. g.greatest k q p })

-- a step's bound, in naturals
bound : (m A E Z S d x y : ℕ) → ((pos x +ℤ pos m *ℤ (pos E +ℤ pos A *ℤ (pos Z -ℤ pos S -ℤ pos d))) ≤ℤ pos y) ↔ (x + m * E + m * A * Z ≤ y + m * A * (S + d))
bound m A E Z S d x y =
    let z = pos Z -ℤ pos S -ℤ pos d in
    let a = is_less (pos Z -ℤ pos S) (pos d) _ _ _ _ (is_less (pos Z) (pos S) _ _ _ _ (is_pos Z) (is_pos S)) (is_pos d) in
    let b = is_sum (pos E) (pos A *ℤ z) _ _ _ _ (is_pos E) (is_times A z _ _ a) in
    let e = pos E +ℤ pos A *ℤ z in
    let c = is_sum (pos x) (pos m *ℤ e) _ _ _ _ (is_pos x) (is_times m e _ _ b) in
    let l = is_le (pos x +ℤ pos m *ℤ e) (pos y) _ _ _ _ c (is_pos y) in
    (λ h. omega (arith, l.0 h), λ h. l.1 (omega arith))

own_bound : (m A E Z x : ℕ) → ((pos x +ℤ pos m *ℤ (pos E +ℤ pos A *ℤ neg_ℤ (pos Z))) ≤ℤ pos x) ↔ (m * E ≤ m * A * Z)
own_bound m A E Z x =
    let z = neg_ℤ (pos Z) in
    let b = is_sum (pos E) (pos A *ℤ z) _ _ _ _ (is_pos E) (is_times A z _ _ (is_neg (pos Z) _ _ (is_pos Z))) in
    let e = pos E +ℤ pos A *ℤ z in
    let c = is_sum (pos x) (pos m *ℤ e) _ _ _ _ (is_pos x) (is_times m e _ _ b) in
    let l = is_le (pos x +ℤ pos m *ℤ e) (pos x) _ _ _ _ c (is_pos x) in
    (λ h. omega (arith, l.0 h), λ h. l.1 (omega arith))

-- the law's sum, with both gcds the other way round
turned : (v w Zj Zi K n : ℕ) → K * (n / gcd v w * gcd Zj Zi + gcd Zj Zi) ≡ K * (n / gcd w v * gcd Zi Zj + gcd Zi Zj)
turned v w Zj Zi K n = λ x. K * (n / gcd_comm v w x * gcd_comm Zj Zi x + gcd_comm Zj Zi x)

-- the end of a firing and the begin of the next, with q - 1 as n
apart_at : (s P D n n' : ℕ) → n' ≡ n + 1 → D ≤ P → s + n * P + D ≤ s + n' * P
apart_at s P D n n' e h = omega (arith, ap (λ k. k * P) e)

apart_one : (s P D n n' : ℕ) → n ≡ 0 → n' ≡ 1 → s + n * P + D ≤ s + n' * P → D ≤ P
apart_one s P D n n' e e' h = omega (arith, ap (λ k. k * P) e, ap (λ k. k * P) e')

module _ (N : Net) (S : Sound N) (T : Timetable) (F : Fits N T) where
  -- what the steps of a link ask, of the link itself
  Forward : Link → Type 0
  Forward l = (pos (start T l.i) +ℤ pos T.scale *ℤ (pos (N.B * duration N l.i) +ℤ pos N.A *ℤ (pos (rate N l.j) -ℤ pos (worth N l l.u) -ℤ pos (grain N l)))) ≤ℤ pos (start T l.j)

  Back : Link → ℕ → Type 0
  Back l c = (pos (start T l.j) +ℤ pos T.scale *ℤ (pos (N.B * duration N l.j) +ℤ pos N.A *ℤ (pos (rate N l.i) -ℤ pos (worth N l (c - l.u)) -ℤ pos (grain N l)))) ≤ℤ pos (start T l.i)

  forward_law : (l : Link) → SoundLink N l → ((t : ℕ) → l.v * begun N T l.j t ≤ l.u + l.w * ended N T l.i t) ↔ Forward l
  unfolding Forward
  forward_law l K =
      let hi = S.recurring l.i K.from_station in
      let hj = S.recurring l.j K.to_station in
      let law = timetable l.w l.v (rate N l.i) (rate N l.j) N.A K.gives K.takes hi hj S.share K.balanced T.scale F.scaled l.u (start T l.i + lasts N T l.i) (start T l.j) in
      let b = bound T.scale N.A (N.B * duration N l.i) (rate N l.j) (worth N l l.u) (grain N l) (start T l.i) (start T l.j) in
      (λ c. b.1 (omega (arith, law.0 c)), λ h. law.1 (omega (arith, b.0 h)))

  back_law : (l : Link) → SoundLink N l → (c : ℕ) → l.u ≤ c → ((t : ℕ) → l.u + l.w * begun N T l.i t ≤ c + l.v * ended N T l.j t) ↔ Back l c
  unfolding Back
  back_law l K c h =
      let hi = S.recurring l.i K.from_station in
      let hj = S.recurring l.j K.to_station in
      let law = timetable l.v l.w (rate N l.j) (rate N l.i) N.A K.takes K.gives hj hi S.share (sym K.balanced) T.scale F.scaled (c - l.u) (start T l.j + lasts N T l.j) (start T l.i) in
      let b = bound T.scale N.A (N.B * duration N l.j) (rate N l.i) (worth N l (c - l.u)) (grain N l) (start T l.j) (start T l.i) in
      let same = turned l.v l.w (rate N l.j) (rate N l.i) (T.scale * N.A) (c - l.u) in
      (λ s. b.1 (omega (arith, law.0 (λ t. omega (arith, s t)), same)), λ k t. omega (arith, law.1 (omega (arith, b.0 k, same)) t))

  own_law : (i : ℕ) → ((q : ℕ) → 1 ≤ q → ends N T i q ≤ begins N T i (q + 1)) ↔ Kept N T (own i)
  own_law i =
      let b = own_bound T.scale N.A (N.B * duration N i) (rate N i) (start T i) in (
        λ a. b.1 (let h = apart_one (start T i) (period N T i) (lasts N T i) (1 - 1) (1 + 1 - 1) refl refl (a 1 (omega arith)) in omega arith),
        λ k q h. apart_at (start T i) (period N T i) (lasts N T i) (q - 1) (q + 1 - 1) (omega arith) (omega (arith, b.0 k)),
      )

  forward_step : (k : ℕ) (l : Link) → Open N k l → Forward l → Kept N T (forward k)
  unfolding Forward
  forward_step k l e h = subst Forward (sym (link_is N k l e)) h

  step_forward : (k : ℕ) (l : Link) → Open N k l → Kept N T (forward k) → Forward l
  unfolding Forward
  step_forward k l e h = subst Forward (link_is N k l e) h

  BackOf : Link → Type 0
  BackOf l = Back l (or_else 0 l.c)

  back_step : (k : ℕ) (l : Link) (c : ℕ) → Open N k l → l.c ≡ Some c → Back l c → Kept N T (back k)
  unfolding Back BackOf
  back_step k l c e f h = subst BackOf (sym (link_is N k l e)) (subst (Back l) (sym (ap (or_else 0) f)) h)

  step_back : (k : ℕ) (l : Link) (c : ℕ) → Open N k l → l.c ≡ Some c → Kept N T (back k) → Back l c
  unfolding Back BackOf
  step_back k l c e f h = subst (Back l) (ap (or_else 0) f) (subst BackOf (link_is N k l e) h)

  every_step : Keeps N T → (s : Step) → Has N s → Kept N T s
  every_step K (forward k) (l, e) = forward_step k l e ((forward_law l (S.linked k l e)).0 (K.stocked k l e))
  every_step K (back k) (l, c, e, f) = back_step k l c e f ((back_law l (S.linked k l e) c ((S.linked k l e).room c f)).0 (K.spaced k l c e f))
  every_step K (own i) h = (own_law i).0 (λ q. K.apart i q h)

  all_rules : ((s : Step) → Has N s → Kept N T s) → Keeps N T
  all_rules h =
      record {
        stocked = λ k l e. (forward_law l (S.linked k l e)).1 (step_forward k l e (h (forward k) (l, e)));
        spaced = λ k l c e f. (back_law l (S.linked k l e) c ((S.linked k l e).room c f)).1 (step_back k l c e f (h (back k) (l, c, e, f)));
        apart = λ i q b. (own_law i).1 (h (own i) b) q;
      }

pub steps_decide_lem : StepsDecide
steps_decide_lem N S T F = (every_step N S T F, all_rules N S T F)
