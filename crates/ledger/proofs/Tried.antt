-- The worked examples. Assumes nothing.
use Rattle.std.proofs.Common.{◌≡◌, ℕ, zero, suc, ◌<◌, ◌≤◌, List, [], ◌∷◌, get_or, pos, neg_ℤ, Some, None, codes, Option, refl, inl, inr, arith, lit<, lit≤}
use lib.Signed.{lt_z_yes}
use Rattle.handover.proofs.Gcd.{coprime}
use Rattle.rules.specs.Net.{Link, Net, Sound, Fits, whole, at_pace_lem}
use Rattle.rules.specs.Rules.{Least, HasTimetable}
use Rattle.rules.specs.Rates.{Leads, stay, on, Joined, CutOff, NoRates, Rated}
use Rattle.rules.specs.Paces.{Fastest}
use Rattle.rules.specs.Steps.{Step, forward, back, Chain, Circuit, ticks_of}
use Rattle.rules.proofs.Chains.{circuit_forbids_lem, least_when_reached_lem}
use Rattle.rules.proofs.Tested.{sound_tested, keeps_tested, every_tested}
use Rattle.rules.proofs.Fastest.{fastest_when_lem}
use Rattle.drafts.specs.declared.fault.DraftFault.{DraftFault}
use Rattle.drafts.specs.declared.fault.DraftFault.TheVariants.{Range}
use Rattle.forms.specs.Marks.{number_at}
use Rattle.forms.specs.Form.{Outcome, got, broken, refused as TurnedDown, run}
use Rattle.forms.proofs.Exact.{right}
use Rattle.timing.specs.Timing as timing
use Rattle.texts.specs.NetText.{Entries, Whole, pieces, Right, Text, Refused, Broken}
use Rattle.texts.specs.NetForm.{net_form}
use Rattle.texts.proofs.NetTexts.{net_describes}
use Rattle.ledger.specs.Calls.{Source, entries, text, duration_to, capacity_to, pace_to, Question, start_of, period_of, stock_at, taken_at, link_at, rate_of, pace_fastest, timetable_shown, Call, load, open_link, put, close, ask, nowhere, at, around, Answer, refused, done, value, fraction, ends_and_terms, timetable}
use Rattle.ledger.specs.States.{new_board, unrated, with_link, entry_link, Gives}
use Rattle.ledger.specs.Checks.{out_of_range, too_full, cut_off, no_rates, unbalanced, in_use, own_checks, link_of, Fails}
use Rattle.ledger.specs.Ranges.{Number, Numbers, draft_numbers, question_numbers}
use Rattle.ledger.specs.Runs.{Passes, AllPass, Answered, Tells, none, more}
use Rattle.ledger.specs.Examples.{a_link, two_draft, two, two_text, apart_draft, unrated_draft, full_draft, turned_draft, there_and_back, Refusals, Told, Made, Worked}
use Rattle.ledger.proofs.Numbers.{ranges_pass, entry_open}
use Rattle.ledger.proofs.Computed.{out_at, out_found, in_tested}
use Rattle.ledger.proofs.Passing.{Roomy, load_roomy, open_roomy, capacity_roomy, pace_roomy, open_pass, none_pass, free_pass, joined_pass, rated_pass}
use Rattle.ledger.proofs.Outcomes.{short, unfit, untimed, settled, settled_text, misread_form, misread_number, close_none, close_done, ask_none, ask_told}

-- The two stations

two_sound : Sound two
two_sound = sound_tested two tt

two_reached : (y : ℕ) → y < 2 → (x : ℕ) × (c : List Step) × Chain two x c y × (ticks_of two c ≡ pos (get_or (0 ∷ 7 ∷ []) y 0))
two_reached zero h = (0, [], refl, refl)
two_reached (suc zero) h = (0, forward 0 ∷ [], ((entry_link two_draft 0, refl), refl, refl), refl)
two_reached (suc (suc y)) h = absurd (omega arith)

two_least : Least two (0 ∷ 7 ∷ [])
two_least =
    let l = least_when_reached_lem two two_sound (0 ∷ 7 ∷ []) refl (every_tested two (whole (0 ∷ 7 ∷ [])) tt) two_reached in
    record { fits = record { scaled = lit≤ tt; complete = refl }; keeps = l.0; least = l.1 }

two_timed : HasTimetable two
two_timed = (whole (0 ∷ 7 ∷ []), two_least.fits, two_least.keeps)

-- the link forward and back, at any pace
abbrev two_circuit : (A B : ℕ) → Circuit (at_pace_lem two A B) (forward 0 ∷ back 0 ∷ [])
two_circuit A B = record { closed = (0, ((entry_link two_draft 0, refl), refl, ((entry_link two_draft 0, 14, refl, refl), refl, refl))); once = ((λ e. omega arith, tt), (tt, tt)) }

pace_told : timing.Told (at_pace_lem two 9 5) (there_and_back (pos 33) (neg_ℤ (pos 29)))
pace_told = record {
  circuit = two_circuit 9 5;
  lengths = refl;
  above = lt_z_yes tt;
  lowest = λ t h. omega arith;
  none = circuit_forbids_lem (at_pace_lem two 9 5) (sound_tested (at_pace_lem two 9 5) tt) (forward 0 ∷ back 0 ∷ []) (two_circuit 9 5) (lt_z_yes tt);
}

-- with a capacity of 7, and with none
abbrev seven : Net
seven = with_link two 0 (Some (a_link 0 1 4 6 0 (Some 7)))

abbrev seven_circuit : Circuit seven (forward 0 ∷ back 0 ∷ [])
seven_circuit = record { closed = (0, ((a_link 0 1 4 6 0 (Some 7), refl), refl, ((a_link 0 1 4 6 0 (Some 7), 7, refl, refl), refl, refl))); once = ((λ e. omega arith, tt), (tt, tt)) }

seven_told : timing.Told seven (there_and_back (pos 7) (pos 1))
seven_told = record {
  circuit = seven_circuit;
  lengths = refl;
  above = lt_z_yes tt;
  lowest = λ t h. omega arith;
  none = circuit_forbids_lem seven (sound_tested seven tt) (forward 0 ∷ back 0 ∷ []) seven_circuit (lt_z_yes tt);
}

abbrev free : Net
free = with_link two 0 (Some (a_link 0 1 4 6 0 None))

free_timed : HasTimetable free
free_timed =
    let T = whole (0 ∷ 7 ∷ []) in
    let F : Fits free T = record { scaled = lit≤ tt; complete = refl } in
    (T, F, keeps_tested free (sound_tested free tt) T F tt)

-- Texts

found : (t : List ℕ) (o : Outcome DraftFault Entries) → o ≡ run 0 net_form t → Right t o
found t o e = right net_form Whole pieces net_describes t o e

cut_short : Broken (codes "net 1") 5
unfolding net_form number_at
cut_short = found (codes "net 1") (broken 5) refl

too_many : Refused (codes "net 65x") (Range 1) 4
unfolding net_form number_at
too_many = found (codes "net 65x") (TurnedDown (Range 1) 4) refl

two_told : Text two_text two_draft
unfolding net_form number_at
two_told = found two_text (got two_draft) refl

-- Ranges of a call

in_range : (N : Net) (c : Call) (ns : List Number) → Numbers N c ns → out_at ns ≡ None → Passes N c out_of_range
in_range N c ns h e = ranges_pass N c ns h (in_tested ns e)

out_of : (N : Net) (c : Call) (ns : List Number) (w : ℕ) → Numbers N c ns → out_at ns ≡ Some w → Fails out_of_range N c (at w)
out_of N c ns w h e = (ns, w, h, out_found ns w e, refl)

roomy : (l : Link) → l.u ≡ 0 → Roomy l
roomy l e room f = omega arith

-- Refusals

range : Answered two (put (duration_to 1 0) 64) (refused 2 (at 2)) two
range =
    let c = put (duration_to 1 0) 64 in
    unfit two c 64 refl refl (lit≤ tt) out_of_range (at 2) (inl (refl, out_of two c _ 2 refl refl))

range_first : Answered two (open_link 0 (a_link 0 2 0 1 0 None) 64) (refused 2 (at 3)) two
range_first =
    let c = open_link 0 (a_link 0 2 0 1 0 None) 64 in
    unfit two c 64 refl refl (lit≤ tt) out_of_range (at 3) (inl (refl, out_of two c _ 3 refl refl))

draft_in : (N : Net) (e : Entries) → out_at (draft_numbers e) ≡ None → Passes N (load (entries e) 64) out_of_range
draft_in N e h = in_range N (load (entries e) 64) (draft_numbers e) (e, refl, refl) h

full : Answered two (load (entries full_draft) 64) (refused 5 (at 0)) two
full =
    unfit two (load (entries full_draft) 64) 64 refl refl (lit≤ tt) too_full (at 0)
    (inr (
      draft_in two full_draft refl,
      inl (refl, (0, record { holds = (entry_link full_draft 0, 4, (full_draft, refl, lit< tt, refl), refl, lit< tt); none_below = λ h l. absurd (omega arith) }, refl)),
    ))

-- a link from station 0 to station 1 on which one part arrives and one leaves
abbrev plain : Link
plain = a_link 0 1 1 1 0 None

unbalanced_one : Answered two (open_link 1 plain 64) (refused 12 (at 1)) two
unbalanced_one =
    let c = open_link 1 plain 64 in
    unfit two c 64 refl refl (lit≤ tt) unbalanced (at 1)
    (inr (in_range two c _ refl refl, inr (free_pass two c 1 plain refl refl, inr (open_roomy two 1 plain 64 (roomy plain refl), inl (refl, (1, plain, refl, (λ e. omega (arith, e)), refl))))))

in_use_one : Answered two (open_link 0 plain 64) (refused 13 (at 0)) two
in_use_one =
    let c = open_link 0 plain 64 in
    unfit two c 64 refl refl (lit≤ tt) in_use (at 0) (inr (in_range two c _ refl refl, inl (refl, (0, plain, entry_link two_draft 0, refl, refl, refl))))

capacity_own : (room : Option ℕ) → Passes two (put (capacity_to 0 room) 64) out_of_range → AllPass two (put (capacity_to 0 room) 64) (own_checks (put (capacity_to 0 room) 64))
capacity_own room h = (h, (open_pass two (put (capacity_to 0 room) 64) 0 (entry_link two_draft 0) refl refl, (capacity_roomy two 0 room 64 (entry_link two_draft 0) refl (λ r f. omega arith), tt)))

capacity : Answered two (put (capacity_to 0 (Some 7)) 64) (refused 20 (around (there_and_back (pos 7) (pos 1)))) two
capacity =
    let c = put (capacity_to 0 (Some 7)) 64 in
    untimed two c 64 refl refl (lit≤ tt) (capacity_own (Some 7) (in_range two c _ refl refl)) seven (entry_link two_draft 0, refl, refl) _ seven_told

pace : Answered two (put (pace_to 9 5) 64) (refused 20 (around (there_and_back (pos 33) (neg_ℤ (pos 29))))) two
pace =
    let c = put (pace_to 9 5) 64 in
    untimed two c 64 refl refl (lit≤ tt) (in_range two c _ refl refl, (none_pass two c refl, (pace_roomy two 9 5 64, tt))) (at_pace_lem two 9 5) refl _ pace_told

-- drafts that are cut off, and that have no rates

stays : {x y : ℕ} → Leads (unrated apart_draft) x y → x ≡ y
stays (stay e) = e
stays (on z k l p o j) = absurd (omega (arith, (entry_open apart_draft [] k l o).0))

apart_cut : CutOff (unrated apart_draft) 1
apart_cut = record { station = lit< tt; apart = λ p. omega (arith, stays p); lowest = λ x h. stay (omega arith) }

apart : Answered two (load (entries apart_draft) 64) (refused 10 (at 1)) two
apart =
    unfit two (load (entries apart_draft) 64) 64 refl refl (lit≤ tt) cut_off (at 1)
    (inr (
      draft_in two apart_draft refl,
      inr (load_roomy two (entries apart_draft) 64 apart_draft refl (λ k h. absurd (omega arith)), inl (refl, (apart_draft, 1, refl, apart_cut, refl))),
    ))

unrated_roomy : (k : ℕ) → k < 2 → Roomy (entry_link unrated_draft k)
unrated_roomy zero h = roomy (entry_link unrated_draft 0) refl
unrated_roomy (suc zero) h = roomy (entry_link unrated_draft 1) refl
unrated_roomy (suc (suc k)) h = absurd (omega arith)

unrated_joined : Joined (unrated unrated_draft)
unrated_joined zero h = stay refl
unrated_joined (suc zero) h = on 0 0 (entry_link unrated_draft 0) (stay refl) refl (inl (refl, refl))
unrated_joined (suc (suc x)) h = absurd (omega arith)

none_there : NoRates (unrated unrated_draft)
none_there Z R = omega (arith, R.balanced 0 (entry_link unrated_draft 0) refl, R.balanced 1 (entry_link unrated_draft 1) refl, R.least 0 (lit< tt))

unrated_one : Answered two (load (entries unrated_draft) 64) (refused 11 nowhere) two
unrated_one =
    let c = load (entries unrated_draft) 64 in
    unfit two c 64 refl refl (lit≤ tt) no_rates nowhere
    (inr (
      draft_in two unrated_draft refl,
      inr (
        load_roomy two (entries unrated_draft) 64 unrated_draft refl unrated_roomy,
        inr (joined_pass two c unrated_draft refl unrated_joined, inl (refl, (unrated_draft, refl, none_there, refl))),
      ),
    ))

refusals : Refusals
refusals = record {
  form = misread_form two (codes "net 1") 63 5 cut_short;
  range = range;
  range_first = range_first;
  range_text = misread_number two (codes "net 65x") 64 1 4 too_many;
  full = full;
  list = short two (put (pace_to 9 5) 63) 63 refl refl (lit< tt);
  cut_off = apart;
  unrated = unrated_one;
  unbalanced = unbalanced_one;
  in_use = in_use_one;
  not_open = close_none two 5 (lit≤ tt) refl;
  capacity = capacity;
  pace = pace;
}

-- Questions

link_told : (q : Question) (a : Answer) → out_at (question_numbers two q) ≡ None → link_of (ask q) ≡ Some 0 → Tells two q a → Answered two (ask q) a two
link_told q a e f t = ask_told two q (in_tested (question_numbers two q) e) (open_pass two (ask q) 0 (entry_link two_draft 0) f refl) a t

plain_told : (q : Question) (a : Answer) → out_at (question_numbers two q) ≡ None → link_of (ask q) ≡ None → Tells two q a → Answered two (ask q) a two
plain_told q a e f t = ask_told two q (in_tested (question_numbers two q) e) (none_pass two (ask q) f) a t

two_fastest : Fastest two 2 1
two_fastest =
    fastest_when_lem two two_sound 2 1 (lit≤ tt) (lit≤ tt) ((coprime 2 1).0 refl) two_timed (forward 0 ∷ back 0 ∷ [])
    (record { circuit = two_circuit 2 1; less = 4; some = lit≤ tt; shares = refl; even = refl })

stock_told : Answered two (ask (stock_at 0 7)) (value 2) two
stock_told = link_told (stock_at 0 7) (value 2) refl refl (0 ∷ 7 ∷ [], entry_link two_draft 0, 2, two_least, refl, refl, refl)

start_told : Answered two (ask (start_of 1)) (value 7) two
start_told = plain_told (start_of 1) (value 7) refl refl (0 ∷ 7 ∷ [], two_least, refl)

told : Told
told = record {
  start = start_told;
  period = plain_told (period_of 1) (value 6) refl refl refl;
  stock = stock_told;
  taken = link_told (taken_at 0 16) (value 14) refl refl (0 ∷ 7 ∷ [], entry_link two_draft 0, 14, two_least, refl, refl, refl);
  link = link_told (link_at 0) (ends_and_terms (a_link 0 1 4 6 0 (Some 14))) refl refl (entry_link two_draft 0, refl, refl);
  rate = plain_told (rate_of 1) (value 3) refl refl refl;
  fastest = plain_told pace_fastest (fraction 2 1) refl refl (2, 1, two_fastest, refl);
  shown = plain_told timetable_shown (timetable (0 ∷ 7 ∷ []) (4 ∷ 6 ∷ [])) refl refl (0 ∷ 7 ∷ [], two_least, refl);
}

-- Changes

two_rates : (i : ℕ) → i < 2 → (1 ≤ get_or (2 ∷ 3 ∷ []) i 0) × (get_or (2 ∷ 3 ∷ []) i 0 ≤ 10_000)
two_rates zero h = (lit≤ tt, lit≤ tt)
two_rates (suc zero) h = (lit≤ tt, lit≤ tt)
two_rates (suc (suc i)) h = absurd (omega arith)

two_rated : Rated two
two_rated = record {
  complete = refl;
  least = λ i h. (two_rates i h).0;
  most = λ i h. (two_rates i h).1;
  balanced = λ k l o. (two_sound.linked k l o).balanced;
  reduced = λ g h. omega (arith, (coprime 2 3).0 refl g (h 0 (lit< tt)) (h 1 (lit< tt)));
}

two_roomy : (k : ℕ) → k < 1 → Roomy (entry_link two_draft k)
two_roomy zero h = roomy (entry_link two_draft 0) refl
two_roomy (suc k) h = absurd (omega arith)

two_joined : Joined (unrated two_draft)
two_joined zero h = stay refl
two_joined (suc zero) h = on 0 0 (entry_link two_draft 0) (stay refl) refl (inl (refl, refl))
two_joined (suc (suc x)) h = absurd (omega arith)

-- from the draft and from its text
two_own : (s : Source) → Gives s two_draft → AllPass new_board (load s 64) (own_checks (load s 64))
two_own s g =
    let c = load s 64 in (
      in_range new_board c (draft_numbers two_draft) (two_draft, g, refl) refl,
      (load_roomy new_board s 64 two_draft g two_roomy, (joined_pass new_board c two_draft g two_joined, (rated_pass new_board c two_draft (2 ∷ 3 ∷ []) g two_rated, tt))),
    )

loaded : Answered new_board (load (entries two_draft) 64) done two
loaded = settled new_board (load (entries two_draft) 64) 64 refl refl (lit≤ tt) (two_own (entries two_draft) refl) two (two_draft, 2 ∷ 3 ∷ [], refl, two_rated, refl) two_timed done refl

read : Answered new_board (load (text two_text) 64) done two
read = settled_text new_board two_text 64 two_draft two_told (lit≤ tt) (two_own (text two_text) two_told) two (two_draft, 2 ∷ 3 ∷ [], two_told, two_rated, refl) two_timed

unbounded : Answered two (put (capacity_to 0 None) 64) done free
unbounded =
    let c = put (capacity_to 0 None) 64 in
    settled two c 64 refl refl (lit≤ tt) (capacity_own None (in_range two c _ refl refl)) free (entry_link two_draft 0, refl, refl) free_timed done refl

closed : Answered two (close 0) done (with_link two 0 None)
closed = close_done two 0 (entry_link two_draft 0) (lit≤ tt) refl

asked : Answered (with_link two 0 None) (ask (stock_at 0 7)) (refused 14 (at 0)) (with_link two 0 None)
asked = let N = with_link two 0 None in ask_none N (stock_at 0 7) (in_tested (question_numbers N (stock_at 0 7)) refl) 0 refl refl

made : Made
made = record {
  loaded = loaded;
  read = read;
  unbounded = unbounded;
  closed = closed;
  run = more loaded (more stock_told (more pace (more start_told (more closed (more asked none)))));
}

pub worked : Worked
worked = record {
  orders = record { loads = refl; reads = refl; opens = refl; puts = refl; closes = refl; asks = refl };
  either_way = on 0 0 (entry_link turned_draft 0) (stay refl) refl (inr (refl, refl));
  refusals = refusals;
  told = told;
  made = made;
}
