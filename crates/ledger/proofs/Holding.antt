-- Every run from the new board leads to a state within the ranges, with balanced links and a timetable. Assumes nothing.
use Rattle.std.proofs.Common.{◌≡◌, ℕ, ◌*◌, ◌<◌, ◌≤◌, List, [], ◌∷◌, length, get_or, set, Some, None, Option, sym, refl, ◌∙◌, subst, inl, inr, arith, lit≤, length-set}
use Rattle.std.proofs.lemmas.Bool.{cases_lt, cases_eq}
use Rattle.std.proofs.lemmas.List.{get_or-set_same, get_or-set_other}
use Rattle.handover.proofs.Options.{none_some, some_same}
use Rattle.rules.specs.Net.{Link, Net, Open, Sound, SoundLink, Fits, rate, whole, at_pace_lem}
use Rattle.rules.specs.Rates.{Rated}
use Rattle.rules.specs.Ranges.{InRange, LinkInRange}
use Rattle.rules.proofs.Paces.{sound_at}
use Rattle.rules.proofs.Soundness.{rates_sound_lem}
use Rattle.rules.proofs.Tested.{sound_tested, keeps_tested, range_tested}
use Rattle.texts.specs.NetText.{Entries}
use Rattle.ledger.specs.Calls.{Source, duration_to, stock_to, capacity_to, pace_to, Call, load, open_link, put, close, ask, at, Answer}
use Rattle.ledger.specs.States.{new_board, with_duration, with_link, with_stock, with_capacity, net_of, Gives, After}
use Rattle.ledger.specs.Checks.{out_of_range, too_full, unbalanced, own_checks, order, list_of}
use Rattle.ledger.specs.Runs.{Answered, AllPass, Passes, Ran, none, more}
use Rattle.ledger.specs.Facts.{Held, StatesHeld}
use Rattle.ledger.proofs.Numbers.{in_range, draft_checked, capacity_in, not_full}
use Rattle.ledger.proofs.Passing.{own_pass, last_pass}
use Rattle.ledger.proofs.Links.{open_with, still_timed}
use Rattle.ledger.proofs.Telling.{timed}

-- What is checked of a state before its timetable is
pub record Fit (N : Net) : Type 0 where
  pub sound : Sound N
  pub ranged : InRange N
  pub numbered : length N.links ≡ 128

-- A number opened or closed

abbrev Fine : Net → Option Link → Type 0
Fine N o = (l : Link) → o ≡ Some l → SoundLink N l × LinkInRange l

link_fit : (N : Net) → Fit N → (k : ℕ) (o : Option Link) → Fine N o → Fit (with_link N k o)
link_fit N F k o fine =
    let S = F.sound in
    let R = F.ranged in
    let relink : (l : Link) → SoundLink N l → SoundLink (with_link N k o) l =
    λ l s. record { from_station = s.from_station; to_station = s.to_station; gives = s.gives; takes = s.takes; room = s.room; balanced = s.balanced } in
    record {
      sound = record {
        rated = S.rated;
        lasting = S.lasting;
        recurring = S.recurring;
        share = S.share;
        unit = S.unit;
        linked = λ h l e. elim (open_with N k o h l e) [ inl f ↦ relink l (fine l f).0 | inr g ↦ relink l (S.linked h l g) ];
      };
      ranged = record {
        some = R.some;
        few = R.few;
        numbers = omega (arith, R.numbers, length-set N.links k o);
        lasting = R.lasting;
        recurring = R.recurring;
        share = R.share;
        unit = R.unit;
        linked = λ h l e. elim (open_with N k o h l e) [ inl f ↦ (fine l f).1 | inr g ↦ R.linked h l g ];
      };
      numbered = length-set N.links k o ∙ F.numbered;
    }

-- A duration set

at_set : (P : ℕ → Type 0) (xs : List ℕ) (i d j : ℕ) → j < length xs → P d → P (get_or xs j 0) → P (get_or (set xs i d) j 0)
at_set P xs i d j h p q =
    elim (cases_eq j i) [
      | inl e ↦ subst (λ z. P (get_or (set xs i d) z 0)) (sym e) (subst P (sym (get_or-set_same xs i d 0 (omega arith))) p)
      | inr ne ↦ subst P (sym (get_or-set_other xs i j d 0 ne)) q
    ]

duration_fit : (N : Net) → Fit N → (i d : ℕ) → 1 ≤ d → d ≤ 10_000 → Fit (with_duration N i d)
duration_fit N F i d low high =
    let S = F.sound in
    let R = F.ranged in
    let same : length (set N.durations i d) ≡ length N.durations = length-set N.durations i d in
    record {
      sound = record {
        rated = S.rated ∙ sym same;
        lasting = λ j h. at_set (λ z. 1 ≤ z) N.durations i d j (omega arith) low (S.lasting j (omega arith));
        recurring = λ j h. S.recurring j (omega arith);
        share = S.share;
        unit = S.unit;
        linked = λ k l e. let s = S.linked k l e in record { from_station = omega (arith, s.from_station); to_station = omega (arith, s.to_station); gives = s.gives; takes = s.takes; room = s.room; balanced = s.balanced };
      };
      ranged = record {
        some = omega (arith, R.some);
        few = omega (arith, R.few);
        numbers = R.numbers;
        lasting = λ j h. at_set (λ z. z ≤ 10_000) N.durations i d j (omega arith) high (R.lasting j (omega arith));
        recurring = λ j h. R.recurring j (omega arith);
        share = R.share;
        unit = R.unit;
        linked = R.linked;
      };
      numbered = F.numbered;
    }

pace_fit : (N : Net) → Fit N → (A B : ℕ) → 1 ≤ A → A ≤ 1_000_000 → 1 ≤ B → B ≤ 10_000_000_000 → Fit (at_pace_lem N A B)
pace_fit N F A B hA kA hB kB =
    let R = F.ranged in
    record {
      sound = sound_at N A B F.sound hA hB;
      ranged = record { some = R.some; few = R.few; numbers = R.numbers; lasting = R.lasting; recurring = R.recurring; share = kA; unit = kB; linked = R.linked };
      numbered = F.numbered;
    }

-- A load

load_fit : (N : Net) (s : Source) (n : ℕ) (e : Entries) (Z : List ℕ) → Gives s e → Passes N (load s n) out_of_range → Passes N (load s n) too_full → Rated (net_of e Z) → Fit (net_of e Z)
load_fit N s n e Z g range room R =
    let f = rates_sound_lem (net_of e Z) (draft_checked N s n e Z g range room) R in
    record { sound = f.0; ranged = f.1; numbered = refl }

fit_of : {N : Net} → Held N → Fit N
fit_of H = record { sound = H.sound; ranged = H.ranged; numbered = H.numbered }

-- The new board

new_held : Held new_board
new_held =
    let S = sound_tested new_board tt in
    let T = whole (0 ∷ []) in
    let F : Fits new_board T = record { scaled = lit≤ tt; complete = refl } in
    record { sound = S; ranged = range_tested new_board tt; numbered = refl; timed = (T, F, keeps_tested new_board S T F tt) }

-- Closing

pub closed_held : (N : Net) → Held N → (k : ℕ) → Held (with_link N k None)
closed_held N H k =
    let F = link_fit N (fit_of H) k None (λ l e. absurd (none_some l e)) in
    record { sound = F.sound; ranged = F.ranged; numbered = F.numbered; timed = still_timed N k H.timed }

-- The other changes

opened_fine : (N : Net) → Held N → (k : ℕ) (l : Link) (n : ℕ) → Passes N (open_link k l n) out_of_range → Passes N (open_link k l n) too_full → Passes N (open_link k l n) unbalanced → Fine N (Some l)
opened_fine N H k l n range room balance m e =
    let G = in_range N (open_link k l n) range _ refl in
    let I = G.1.0 in
    let J = G.1.1.0 in
    let W = G.1.1.1.0 in
    let V = G.1.1.1.1.0 in
    let U = G.1.1.1.1.1.0 in
    let some = H.ranged.some in
    subst (λ z. SoundLink N z × LinkInRange z) (some_same l m e) (
      record {
        from_station = omega arith;
        to_station = omega arith;
        gives = W.0;
        takes = V.0;
        room = λ c g. elim (cases_lt c l.u) [ inl less ↦ absurd (not_full N (open_link k l n) room k (l, c, (refl, refl), g, less)) | inr fits ↦ fits ];
        balanced = elim (cases_eq (rate N l.i * l.v) (rate N l.j * l.w)) [ inl b ↦ b | inr nb ↦ absurd (balance (at k) (k, l, refl, nb, refl)) ];
      },
      record { arrive = W.1; leave = V.1; stock = U.1; room = λ c g. capacity_in 7 l.c c G.1.1.1.1.1.1 g },
    )

stock_fine : (N : Net) → Held N → (k u n : ℕ) (l : Link) → Open N k l → Passes N (put (stock_to k u) n) out_of_range → Passes N (put (stock_to k u) n) too_full → Fine N (Some (with_stock l u))
stock_fine N H k u n l o range room m e =
    let G = in_range N (put (stock_to k u) n) range _ refl in
    let s = H.sound.linked k l o in
    let r = H.ranged.linked k l o in
    subst (λ z. SoundLink N z × LinkInRange z) (some_same (with_stock l u) m e) (
      record {
        from_station = s.from_station;
        to_station = s.to_station;
        gives = s.gives;
        takes = s.takes;
        room = λ c g. elim (cases_lt c u) [ inl less ↦ absurd (not_full N (put (stock_to k u) n) room k (with_stock l u, c, (refl, l, o, refl), g, less)) | inr fits ↦ fits ];
        balanced = s.balanced;
      },
      record { arrive = r.arrive; leave = r.leave; stock = G.1.0.1; room = r.room },
    )

capacity_fine : (N : Net) → Held N → (k : ℕ) (c : Option ℕ) (n : ℕ) (l : Link) → Open N k l → Passes N (put (capacity_to k c) n) out_of_range → Passes N (put (capacity_to k c) n) too_full → Fine N (Some (with_capacity l c))
capacity_fine N H k c n l o range room m e =
    let G = in_range N (put (capacity_to k c) n) range _ refl in
    let s = H.sound.linked k l o in
    let r = H.ranged.linked k l o in
    subst (λ z. SoundLink N z × LinkInRange z) (some_same (with_capacity l c) m e) (
      record {
        from_station = s.from_station;
        to_station = s.to_station;
        gives = s.gives;
        takes = s.takes;
        room = λ x g. elim (cases_lt x l.u) [ inl less ↦ absurd (not_full N (put (capacity_to k c) n) room k (with_capacity l c, x, (refl, l, o, refl), g, less)) | inr fits ↦ fits ];
        balanced = s.balanced;
      },
      record { arrive = r.arrive; leave = r.leave; stock = r.stock; room = λ x g. capacity_in 2 c x G.1 g },
    )

-- What is offered to the search
pub offered_fit : (N : Net) (c : Call) (L : Net) → Held N → AllPass N c (own_checks c) → After N c L → Fit L
offered_fit N (load s n) L H P (e, Z, g, R, a) = subst Fit (sym a) (load_fit N s n e Z g P.0 P.1.0 R)
offered_fit N (open_link k l n) L H P a = subst Fit (sym a) (link_fit N (fit_of H) k (Some l) (opened_fine N H k l n P.0 P.1.1.0 P.1.1.1.0))
offered_fit N (close k) L H P a = subst Fit (sym a) (fit_of (closed_held N H k))
offered_fit N (put (duration_to i d) n) L H P a =
    let G = in_range N (put (duration_to i d) n) P.0 _ refl in
    subst Fit (sym a) (duration_fit N (fit_of H) i d G.1.0.0 G.1.0.1)
offered_fit N (put (stock_to k u) n) L H P (l, o, a) = subst Fit (sym a) (link_fit N (fit_of H) k (Some (with_stock l u)) (stock_fine N H k u n l o P.0 P.1.1.0))
offered_fit N (put (capacity_to k c) n) L H P (l, o, a) = subst Fit (sym a) (link_fit N (fit_of H) k (Some (with_capacity l c)) (capacity_fine N H k c n l o P.0 P.1.1.0))
offered_fit N (put (pace_to A B) n) L H P a =
    let G = in_range N (put (pace_to A B) n) P.0 _ refl in
    subst Fit (sym a) (pace_fit N (fit_of H) A B G.0.0 G.0.1 G.1.0.0 G.1.0.1)
offered_fit N (ask q) L H P a = subst Fit (sym a) (fit_of H)

changed_held : (N : Net) (c : Call) (n : ℕ) (L : Net) → list_of c ≡ Some n → Held N → AllPass N c (order c) → After N c L → Held L
changed_held N c n L e H P a =
    let F = offered_fit N c L H (own_pass N c P) a in
    record { sound = F.sound; ranged = F.ranged; numbered = F.numbered; timed = timed N c L F.sound (last_pass N c n e P) a }

accepted_held : (N : Net) (c : Call) (L : Net) → Held N → AllPass N c (order c) → After N c L → Held L
accepted_held N (load s n) L H P a = changed_held N (load s n) n L refl H P a
accepted_held N (open_link k l n) L H P a = changed_held N (open_link k l n) n L refl H P a
accepted_held N (put s n) L H P a = changed_held N (put s n) n L refl H P a
accepted_held N (close k) L H P a = subst Held (sym a) (closed_held N H k)
accepted_held N (ask q) L H P a = subst Held (sym a) H

pub step_held : (N : Net) (c : Call) (a : Answer) (L : Net) → Held N → Answered N c a L → Held L
step_held N c a L H (inl R) = subst Held (sym R.unchanged) H
step_held N c a L H (inr A) = accepted_held N c L H A.passes A.after

run_held : (N : Net) (cs : List Call) (xs : List Answer) (L : Net) → Held N → Ran N cs xs L → Held L
run_held N cs xs L H none = H
run_held N cs xs L H (more {L' = N'} {c = c} {cs = ds} {a = a} {rs = ys} h r) = run_held N' ds ys L (step_held N c a N' H h) r

pub states_held_lem : StatesHeld
states_held_lem = (new_held, step_held, λ cs xs N. run_held new_board cs xs N new_held)
