-- A net at other paces. Assumes nothing.
use Rattle.std.proofs.Common.{◌≡◌, ℕ, ◌+◌, ◌*◌, ◌<◌, ◌≤◌, List, [], ◌∷◌, map, ℤ, pos, ◌+ℤ◌, ◌*ℤ◌, neg_ℤ, ◌<ℤ◌, sym, refl, ap, ◌∙◌, subst, inl, inr, mul-le-mul_left, mul-pos, arith}
use borrow.Author.Differences.{up, down, sum_is_lem, lt_out, neg_is, below_in}
use Rattle.std.proofs.lemmas.Bool.{cases_lt}
use Rattle.rules.specs.Net.{Link, Net, SoundLink, Sound, at_pace_lem}
use Rattle.rules.specs.Rules.{NoTimetable}
use Rattle.rules.specs.Steps.{Step, forward, back, own, Has, Chain, Circuit, PairAbove, leads_from, leads_to, shares, time, ticks, shares_of, time_of, ticks_of}
use Rattle.handover.specs.Once.{Once}
use Rattle.rules.specs.Theorems.{PairForbids, PaceFloor}
use Rattle.rules.proofs.Differences.{Is, is_itself, is_pos, is_sum, is_times}
use Rattle.rules.proofs.Chains.{circuit_forbids_lem}

-- A chain's length is B ticks for its time and A ticks for its shares

pair_more : (A B t t' : ℕ) (a a' y z : ℤ) → Is y (B * t + A * up a) (A * down a) → Is z (B * t' + A * up a') (A * down a') →
    Is (y +ℤ z) (B * (t + t') + A * up (a +ℤ a')) (A * down (a +ℤ a'))
pair_more A B t t' a a' y z h k = omega (arith, sum_is_lem y z, ap (λ n. A * n) (sum_is_lem a a'))

pub step_pair : (N : Net) (s : Step) → Is (ticks N s) (N.B * time N s + N.A * up (shares N s)) (N.A * down (shares N s))
step_pair N s =
    let h = is_sum (pos (N.B * time N s)) (pos N.A *ℤ shares N s) _ _ _ _ (is_pos (N.B * time N s)) (is_times N.A (shares N s) _ _ (is_itself (shares N s))) in
    omega arith

pub chain_pair : (N : Net) (c : List Step) → Is (ticks_of N c) (N.B * time_of N c + N.A * up (shares_of N c)) (N.A * down (shares_of N c))
chain_pair N [] = omega arith
chain_pair N (s ∷ c) = pair_more N.A N.B (time N s) (time_of N c) (shares N s) (shares_of N c) (ticks N s) (ticks_of N c) (step_pair N s) (chain_pair N c)

named : (A B : ℕ) (z a a' : ℤ) (t t' : ℕ) → Is z (B * t + A * up a) (A * down a) → t ≡ t' → a ≡ a' → Is z (B * t' + A * up a') (A * down a')
named A B z a a' t t' h e f = omega (arith, ap (λ n. B * n) e, ap (λ n. A * up n) f, ap (λ n. A * down n) f)

-- What another pace leaves as it is

module _ (N : Net) (A B : ℕ) where
  pub has_at : (s : Step) → Has N s → Has (at_pace_lem N A B) s
  has_at (forward k) h = h
  has_at (back k) h = h
  has_at (own i) h = h

  pub from_at : (s : Step) → leads_from (at_pace_lem N A B) s ≡ leads_from N s
  from_at (forward k) = refl
  from_at (back k) = refl
  from_at (own i) = refl

  pub to_at : (s : Step) → leads_to (at_pace_lem N A B) s ≡ leads_to N s
  to_at (forward k) = refl
  to_at (back k) = refl
  to_at (own i) = refl

  shares_at : (s : Step) → shares (at_pace_lem N A B) s ≡ shares N s
  shares_at (forward k) = refl
  shares_at (back k) = refl
  shares_at (own i) = refl

  time_at : (s : Step) → time (at_pace_lem N A B) s ≡ time N s
  time_at (forward k) = refl
  time_at (back k) = refl
  time_at (own i) = refl

  pub chain_at : (c : List Step) (x y : ℕ) → Chain N x c y → Chain (at_pace_lem N A B) x c y
  chain_at [] x y e = e
  chain_at (s ∷ c) x y (h, e, r) = (has_at s h, from_at s ∙ e, subst (λ z. Chain (at_pace_lem N A B) z c y) (sym (to_at s)) (chain_at c (leads_to N s) y r))

  tos_at : (c : List Step) → map (leads_to (at_pace_lem N A B)) c ≡ map (leads_to N) c
  tos_at [] = refl
  tos_at (s ∷ c) = λ x. to_at s x ∷ tos_at c x

  pub shares_of_at : (c : List Step) → shares_of (at_pace_lem N A B) c ≡ shares_of N c
  shares_of_at [] = refl
  shares_of_at (s ∷ c) = λ x. shares_at s x +ℤ shares_of_at c x

  pub time_of_at : (c : List Step) → time_of (at_pace_lem N A B) c ≡ time_of N c
  time_of_at [] = refl
  time_of_at (s ∷ c) = λ x. time_at s x + time_of_at c x

  pub circuit_at : (c : List Step) → Circuit N c → Circuit (at_pace_lem N A B) c
  circuit_at c C = record { closed = (C.closed.0, chain_at c C.closed.0 C.closed.0 C.closed.1); once = subst Once (sym (tos_at c)) C.once }

  sound_link_at : (l : Link) → SoundLink N l → SoundLink (at_pace_lem N A B) l
  sound_link_at l K = record { from_station = K.from_station; to_station = K.to_station; gives = K.gives; takes = K.takes; room = K.room; balanced = K.balanced }

  pub sound_at : Sound N → 1 ≤ A → 1 ≤ B → Sound (at_pace_lem N A B)
  sound_at S hA hB =
      record { rated = S.rated; lasting = S.lasting; recurring = S.recurring; share = hA; unit = hB; linked = λ k l e. sound_link_at l (S.linked k l e) }

  -- the length at that pace
  pub pair_at : (c : List Step) → Is (ticks_of (at_pace_lem N A B) c) (B * time_of N c + A * up (shares_of N c)) (A * down (shares_of N c))
  pair_at c = named A B (ticks_of (at_pace_lem N A B) c) (shares_of (at_pace_lem N A B) c) (shares_of N c) (time_of (at_pace_lem N A B) c) (time_of N c) (chain_pair (at_pace_lem N A B) c) (time_of_at c) (shares_of_at c)

above_at : (A B b : ℕ) (a z : ℤ) → 1 ≤ A → 1 ≤ B → PairAbove a b → Is z (B * b + A * up a) (A * down a) → pos 0 <ℤ z
above_at A B b a z hA hB (inl h) p = below_in (pos 0) z (omega (arith, mul-le-mul_left A (lt_out (pos 0) a h)))
above_at A B b a z hA hB (inr (e, h)) p = below_in (pos 0) z (omega (arith, mul-pos hB h, ap (λ k. A * up k) e, ap (λ k. A * down k) e))

pub pair_forbids_lem : PairForbids
pair_forbids_lem N S c C above A B hA hB =
    circuit_forbids_lem (at_pace_lem N A B) (sound_at N A B S hA hB) c (circuit_at N A B c C)
    (above_at A B (time_of N c) (shares_of N c) (ticks_of (at_pace_lem N A B) c) hA hB above (pair_at N A B c))

floor_at : (A B a b : ℕ) (s z : ℤ) (t : ℕ) → s ≡ neg_ℤ (pos a) → t ≡ b → A * a < B * b → Is z (B * t + A * up s) (A * down s) → pos 0 <ℤ z
floor_at A B a b s z t e f h p =
    below_in (pos 0) z (omega (arith, ap (λ k. A * up k) e, ap (λ k. A * down k) e, ap (λ n. A * n) (neg_is (pos a)).0, ap (λ n. A * n) (neg_is (pos a)).1, ap (λ n. B * n) f))

pub pace_floor_lem : PaceFloor
pace_floor_lem N S c C a b ha e f A B hA hB =
    let none : A * a < B * b → NoTimetable (at_pace_lem N A B) =
    λ h. circuit_forbids_lem (at_pace_lem N A B) (sound_at N A B S hA hB) c (circuit_at N A B c C) (floor_at A B a b (shares_of N c) (ticks_of (at_pace_lem N A B) c) (time_of N c) e f h (pair_at N A B c)) in
    (none, λ h. elim (cases_lt (A * a) (B * b)) [ inl l ↦ absurd (none l h.0 h.1 h.2) | inr l ↦ l ])
