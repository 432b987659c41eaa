-- Whether a call is refused for want of a timetable. Assumes nothing.
use Rattle.std.proofs.Common.{◌≡◌, ℕ, ◌<◌, ◌≤◌, ◌⊎◌, List, [], ◌∷◌, ◌++◌, map, length, sym, refl, ap, ◌∙◌, subst, inl, inr, le_trans, arith, lit<}
use lib.ListN.{length-map}
use Rattle.handover.proofs.Once.{once_few}
use Rattle.rules.specs.Net.{Net, Sound, stations}
use Rattle.rules.specs.Rules.{NoTimetable}
use Rattle.rules.specs.Steps.{leads_to}
use Rattle.rules.proofs.Chains.{least_one_lem, circuit_forbids_lem}
use Rattle.rules.proofs.Existence.{least_or_circuit_lem, chain_inside}
use Rattle.nets.specs.declared.CircuitStep.{CircuitStep}
use Rattle.nets.specs.Views.{step_of}
use Rattle.timing.specs.Timing as timing
use Rattle.ledger.specs.Calls.{entries, text, Question, start_of, period_of, stock_at, taken_at, link_at, duration_of, rate_of, pace_held, pace_fastest, timetable_shown, Call, load, open_link, put, close, ask, Place, Answer, refused, value}
use Rattle.ledger.specs.States.{new_board}
use Rattle.ledger.specs.Checks.{Refusal, unformed, out_in_text, full_in_text, out_of_range, too_full, short_list, cut_off, no_rates, unbalanced, in_use, not_open, no_timetable, number_of, own_checks, order, Fails}
use Rattle.ledger.specs.Runs.{Tells, Value, Passes, AllPass, FirstFails, Refused, Answered, Ran, none, more}
use Rattle.ledger.specs.Facts.{Among, Earlier, Offered, TimetablesDecide, LeastThere, RunsJoin, RunsDecide}
use Rattle.ledger.proofs.Basics.{not_done}
use Rattle.ledger.proofs.Afters.{after_one}
use Rattle.ledger.proofs.Passing.{own_pass}
use Rattle.ledger.proofs.Holding.{step_held, offered_fit, states_held_lem}

-- What is told is no refusal

not_value : {n m : ℕ} {p : Place} → value m ≡ refused n p → ⊥
not_value {n} {m} {p} e = let z : ◌≡◌ {A = ℕ} 0 1 = cc in omega arith

tells_no_refusal : (N : Net) (q : Question) (a : Answer) (n : ℕ) (p : Place) → Tells N q a → a ≡ refused n p → ⊥
tells_no_refusal N (start_of i) a n p (s, L, e) f = not_value (sym e ∙ f)
tells_no_refusal N (period_of i) a n p e f = not_value (sym e ∙ f)
tells_no_refusal N (stock_at k t) a n p (s, l, m, L, o, g, e) f = not_value (sym e ∙ f)
tells_no_refusal N (taken_at k t) a n p (s, l, m, L, o, g, e) f = not_value (sym e ∙ f)
tells_no_refusal N (link_at k) a n p (l, o, e) f = let z : ◌≡◌ {A = ℕ} 0 1 = cc in omega arith
tells_no_refusal N (duration_of i) a n p e f = not_value (sym e ∙ f)
tells_no_refusal N (rate_of i) a n p e f = not_value (sym e ∙ f)
tells_no_refusal N pace_held a n p e f = let z : ◌≡◌ {A = ℕ} 0 1 = cc in omega arith
tells_no_refusal N pace_fastest a n p (A, B, F, e) f = let z : ◌≡◌ {A = ℕ} 0 1 = cc in omega arith
tells_no_refusal N timetable_shown a n p (s, L, e) f = let z : ◌≡◌ {A = ℕ} 0 1 = cc in omega arith

value_no_refusal : (N : Net) (c : Call) (a : Answer) (n : ℕ) (p : Place) → Value N c a → a ≡ refused n p → ⊥
value_no_refusal N (load s m) a n p e f = not_done (sym f ∙ e)
value_no_refusal N (open_link k l m) a n p e f = not_done (sym f ∙ e)
value_no_refusal N (put s m) a n p e f = not_done (sym f ∙ e)
value_no_refusal N (close k) a n p e f = not_done (sym f ∙ e)
value_no_refusal N (ask q) a n p e f = tells_no_refusal N q a n p e f

-- A refusal is for want of a timetable or for something else

other : (r : Refusal) → (number_of r ≡ 20 → ⊥) → r ≡ no_timetable → ⊥
other r h e = h (ap number_of e)

other_or_twenty : (r : Refusal) → (r ≡ no_timetable) ⊎ (r ≡ no_timetable → ⊥)
other_or_twenty unformed = inr (other unformed (λ e. omega (arith, e)))
other_or_twenty out_in_text = inr (other out_in_text (λ e. omega (arith, e)))
other_or_twenty full_in_text = inr (other full_in_text (λ e. omega (arith, e)))
other_or_twenty out_of_range = inr (other out_of_range (λ e. omega (arith, e)))
other_or_twenty too_full = inr (other too_full (λ e. omega (arith, e)))
other_or_twenty short_list = inr (other short_list (λ e. omega (arith, e)))
other_or_twenty cut_off = inr (other cut_off (λ e. omega (arith, e)))
other_or_twenty no_rates = inr (other no_rates (λ e. omega (arith, e)))
other_or_twenty unbalanced = inr (other unbalanced (λ e. omega (arith, e)))
other_or_twenty in_use = inr (other in_use (λ e. omega (arith, e)))
other_or_twenty not_open = inr (other not_open (λ e. omega (arith, e)))
other_or_twenty no_timetable = inl refl

-- A refused call that passes its earlier checks

some_fails : (N : Net) (c : Call) (xs : List Refusal) (r : Refusal) (p : Place) → FirstFails N c xs r p → Among r xs × Fails r N c p
some_fails N c [] r p f = absurd f
some_fails N c (x ∷ xs) r p (inl (e, f)) = (inl e, subst (λ z. Fails z N c p) (sym e) f)
some_fails N c (x ∷ xs) r p (inr (h, f)) = let g = some_fails N c xs r p f in (inr g.0, g.1)

wants : (N : Net) (c : Call) (a : Answer) (L : Net) → Earlier N c → (R : Refused N c a L) → (R.check ≡ no_timetable) × Fails no_timetable N c R.place
wants N c a L pass R =
    let f = some_fails N c (order c) R.check R.place R.fails in
    elim (other_or_twenty R.check) [
      | inl e ↦ (e, subst (λ z. Fails z N c R.place) e f.1)
      | inr ne ↦ absurd (pass R.check f.0 ne R.place f.1)
    ]

-- A call that passes its earlier checks passes its own

among_before : (r : Refusal) (xs ys : List Refusal) → Among r xs → Among r (xs ++ ys)
among_before r [] ys h = absurd h
among_before r (x ∷ xs) ys (inl e) = inl e
among_before r (x ∷ xs) ys (inr h) = inr (among_before r xs ys h)

own_among : (c : Call) (r : Refusal) → Among r (own_checks c) → Among r (order c)
own_among (load (entries d) n) r h = inr (among_before r (own_checks (load (entries d) n)) (no_timetable ∷ []) h)
own_among (load (text t) n) r h = inr (inr (inr (inr (among_before r (own_checks (load (text t) n)) (no_timetable ∷ []) h))))
own_among (open_link k l n) r h = inr (among_before r (own_checks (open_link k l n)) (no_timetable ∷ []) h)
own_among (put s n) r h = inr (among_before r (own_checks (put s n)) (no_timetable ∷ []) h)
own_among (close k) r h = h
own_among (ask q) r h = h

abbrev Others : List Refusal → Type 0
Others [] = Unit {0}
Others (x ∷ xs) = (number_of x < 20) × Others xs

own_others : (c : Call) → Others (own_checks c)
own_others (load s n) = (lit< tt, (lit< tt, (lit< tt, (lit< tt, tt))))
own_others (open_link k l n) = (lit< tt, (lit< tt, (lit< tt, (lit< tt, tt))))
own_others (put s n) = (lit< tt, (lit< tt, (lit< tt, tt)))
own_others (close k) = (lit< tt, (lit< tt, tt))
own_others (ask q) = (lit< tt, (lit< tt, tt))

among_others : (xs : List Refusal) (r : Refusal) → Others xs → Among r xs → r ≡ no_timetable → ⊥
among_others [] r o h f = h
among_others (x ∷ xs) r (l, o) (inl e) f = omega (arith, l, ap number_of (sym e ∙ f))
among_others (x ∷ xs) r (l, o) (inr h) f = among_others xs r o h f

all_pass : (N : Net) (c : Call) (xs : List Refusal) → ((r : Refusal) → Among r xs → Passes N c r) → AllPass N c xs
all_pass N c [] h = tt
all_pass N c (x ∷ xs) h = (h x (inl refl), all_pass N c xs (λ r a. h r (inr a)))

own_earlier : (N : Net) (c : Call) → Earlier N c → AllPass N c (own_checks c)
own_earlier N c E = all_pass N c (own_checks c) (λ r a. E r (own_among c r a) (among_others (own_checks c) r (own_others c) a))

-- The theorems

circuit_fits : (N : Net) → Sound N → (s : List CircuitStep) → timing.Told N s → length s ≤ stations N
circuit_fits N S s T =
    let c = map step_of s in
    let x = T.circuit.closed in
    omega (arith, once_few (stations N) (map (leads_to N) c) T.circuit.once (chain_inside N S c x.0 x.0 x.1), length-map c (leads_to N), length-map s step_of)

pub offered : Offered
offered N H c pass K after =
    let F = offered_fit N c K H (own_earlier N c pass) after in
    (F.sound, F.ranged, λ s T. le_trans (circuit_fits K F.sound s T) F.ranged.few)

pub timetables_decide_lem : TimetablesDecide
timetables_decide_lem N H c a L (inl R) pass K after =
    let w = wants N c a L pass R in
    let f = w.1 in (
      λ q. subst NoTimetable (after_one N c f.0 K (own_earlier N c pass) f.2 after) f.3.none,
      λ h. (R.place, R.answer ∙ ap (λ z. refused (number_of z) R.place) w.0),
    )
timetables_decide_lem N H c a L (inr A) pass K after =
    let t = (step_held N c a L H (inr A)).timed in
    let same = after_one N c L K (own_pass N c A.passes) A.after after in (
      λ q. absurd (value_no_refusal N c a 20 q.0 A.answer q.1),
      λ h. absurd (subst NoTimetable (sym same) h t.0 t.1 t.2),
    )

pub least_there_lem : LeastThere
least_there_lem N H =
    elim (least_or_circuit_lem N H.sound) [
      | inl (s, l) ↦ (s, l, λ x k. least_one_lem N x s k l)
      | inr (c, C, above) ↦ (let t = H.timed in absurd (circuit_forbids_lem N H.sound c C above t.0 t.1 t.2))
    ]

pub runs_join_lem : RunsJoin
runs_join_lem N K L cs ds xs ys none s = s
runs_join_lem N K L cs ds xs ys (more {L' = M} {cs = cs'} {rs = xs'} h r) s = more h (runs_join_lem M K L cs' ds xs' ys r s)

-- a run cut at one of its calls
record Cut (N : Net) (cs : List Call) (c : Call) (ds : List Call) (rs : List Answer) (L : Net) : Type 0 where
  before : List Answer
  answer : Answer
  behind : List Answer
  all : rs ≡ before ++ answer ∷ behind
  state : Net
  next : Net
  ran : Ran N cs before state
  answered : Answered state c answer next

cut : (N : Net) (cs : List Call) (c : Call) (ds : List Call) (rs : List Answer) (L : Net) → Ran N (cs ++ c ∷ ds) rs L → Cut N cs c ds rs L
cut N [] c ds rs L (more {L' = M} {a = a} {rs = ys} h r) = record { before = []; answer = a; behind = ys; all = refl; state = N; next = M; ran = none; answered = h }
cut N (x ∷ cs) c ds rs L (more {L' = M} {a = a} {rs = ys} h r) =
    let k = cut M cs c ds ys L r in
    record { before = a ∷ k.before; answer = k.answer; behind = k.behind; all = ap (λ z. a ∷ z) k.all; state = k.state; next = k.next; ran = more h k.ran; answered = k.answered }

pub runs_decide_lem : RunsDecide
runs_decide_lem cs ds c rs L r =
    let k = cut new_board cs c ds rs L r in
    let H = states_held_lem.2 cs k.before k.state k.ran in
    record {
      before = k.before;
      answer = k.answer;
      behind = k.behind;
      all = k.all;
      state = k.state;
      ran = k.ran;
      held = H;
      decides = timetables_decide_lem k.state H c k.answer k.next k.answered;
    }
