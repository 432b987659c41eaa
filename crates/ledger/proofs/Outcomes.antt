-- How a call comes to its answer: for whoever holds a board against the ledger. Assumes nothing.
use Rattle.std.proofs.Common.{◌≡◌, ℕ, ◌<◌, ◌≤◌, List, [], ◌∷◌, ◌++◌, get_or, Some, None, sym, refl, subst, inl, inr, arith}
use Rattle.rules.specs.Net.{Link, Net, Open}
use Rattle.rules.specs.Rules.{HasTimetable}
use Rattle.nets.specs.declared.CircuitStep.{CircuitStep}
use Rattle.drafts.specs.declared.fault.DraftFault.TheVariants.{Range, Capacity}
use Rattle.timing.specs.Timing.{Told}
use Rattle.texts.specs.NetText as texts
use Rattle.texts.specs.NetText.{Entries, Text, Broken}
use Rattle.ledger.specs.Calls.{Question, Call, text, load, close, ask, Place, at, in_text, around, Answer, refused, done}
use Rattle.ledger.specs.States.{with_link, After}
use Rattle.ledger.specs.Ranges.{FirstOut, question_numbers}
use Rattle.ledger.specs.Checks.{Refusal, unformed, out_in_text, full_in_text, out_of_range, short_list, not_open, no_timetable, number_of, own_checks, with_list, order, list_of, link_of}
use Rattle.ledger.specs.Runs.{Tells, Value, Passes, AllPass, FirstFails, Answered, Ran, none, more}
use Rattle.ledger.proofs.Reading.{form_pass, numbers_pass, text_pass, fault_whole, fault_one, range_capacity}
use Rattle.ledger.proofs.Numbers.{AllIn, ranges_pass}
use Rattle.ledger.proofs.Passing.{list_pass, open_pass, settled_pass}

-- Refused, and accepted

pub refuse : (N : Net) (c : Call) (r : Refusal) (p : Place) → FirstFails N c (order c) r p → Answered N c (refused (number_of r) p) N
refuse N c r p f = inl (record { check = r; place = p; fails = f; answer = refl; unchanged = refl })

pub accept : (N : Net) (c : Call) (a : Answer) (L : Net) → AllPass N c (order c) → After N c L → Value N c a → Answered N c a L
accept N c a L p f v = inr (record { passes = p; after = f; answer = v })

-- Checks before others

pub fails_before : (N : Net) (c : Call) (xs ys : List Refusal) (r : Refusal) (p : Place) → FirstFails N c xs r p → FirstFails N c (xs ++ ys) r p
fails_before N c [] ys r p f = absurd f
fails_before N c (x ∷ xs) ys r p (inl f) = inl f
fails_before N c (x ∷ xs) ys r p (inr (h, f)) = inr (h, fails_before N c xs ys r p f)

pub fails_behind : (N : Net) (c : Call) (xs ys : List Refusal) (r : Refusal) (p : Place) → AllPass N c xs → FirstFails N c ys r p → FirstFails N c (xs ++ ys) r p
fails_behind N c [] ys r p a f = f
fails_behind N c (x ∷ xs) ys r p (h, a) f = inr (h, fails_behind N c xs ys r p a f)

pub pass_both : (N : Net) (c : Call) (xs ys : List Refusal) → AllPass N c xs → AllPass N c ys → AllPass N c (xs ++ ys)
pass_both N c [] ys a b = b
pass_both N c (x ∷ xs) ys (h, a) b = (h, pass_both N c xs ys a b)

-- A change, of which some checks were passed before that of the list
module _ (N : Net) (c : Call) (n : ℕ) (handed : list_of c ≡ Some n) (front : List Refusal) (ordered : order c ≡ front ++ with_list (own_checks c)) (ready : AllPass N c front) where
  abbrev FailsFirst : Refusal → Place → List Refusal → Type 0
  FailsFirst r p xs = FirstFails N c xs r p

  at_list : (r : Refusal) (p : Place) → FirstFails N c (with_list (own_checks c)) r p → Answered N c (refused (number_of r) p) N
  at_list r p f = refuse N c r p (subst (FailsFirst r p) (sym ordered) (fails_behind N c front (with_list (own_checks c)) r p ready f))

  pub short_behind : n < 64 → Answered N c (refused 6 (at n)) N
  short_behind h = at_list short_list (at n) (inl (refl, (n, handed, h, refl)))

  module _ (long : 64 ≤ n) where
    pub unfit_behind : (r : Refusal) (p : Place) → FirstFails N c (own_checks c) r p → Answered N c (refused (number_of r) p) N
    unfit_behind r p f = at_list r p (inr (list_pass N c n handed long, fails_before N c (own_checks c) (no_timetable ∷ []) r p f))

    module _ (P : AllPass N c (own_checks c)) (K : Net) (a : After N c K) where
      pub untimed_behind : (s : List CircuitStep) → Told K s → Answered N c (refused 20 (around s)) N
      untimed_behind s t =
          at_list no_timetable (around s) (inr (list_pass N c n handed long, fails_behind N c (own_checks c) (no_timetable ∷ []) no_timetable (around s) P (inl (refl, (K, s, a, t, refl)))))

      pub settled_behind : HasTimetable K → (b : Answer) → Value N c b → Answered N c b K
      settled_behind t b v =
          accept N c b K
          (subst (AllPass N c) (sym ordered)
          (pass_both N c front (with_list (own_checks c)) ready (list_pass N c n handed long, pass_both N c (own_checks c) (no_timetable ∷ []) P (settled_pass N c K P a t, tt))))
          a v

-- A change that is checked for its list first
module _ (N : Net) (c : Call) (n : ℕ) (handed : list_of c ≡ Some n) (ordered : order c ≡ with_list (own_checks c)) where
  pub short : n < 64 → Answered N c (refused 6 (at n)) N
  short = short_behind N c n handed [] ordered tt

  pub unfit : 64 ≤ n → (r : Refusal) (p : Place) → FirstFails N c (own_checks c) r p → Answered N c (refused (number_of r) p) N
  unfit = unfit_behind N c n handed [] ordered tt

  pub untimed : 64 ≤ n → AllPass N c (own_checks c) → (K : Net) → After N c K → (s : List CircuitStep) → Told K s → Answered N c (refused 20 (around s)) N
  untimed = untimed_behind N c n handed [] ordered tt

  pub settled : 64 ≤ n → AllPass N c (own_checks c) → (K : Net) → After N c K → HasTimetable K → (b : Answer) → Value N c b → Answered N c b K
  settled = settled_behind N c n handed [] ordered tt

-- A load of a text: read, it is checked as its entries are
module _ (N : Net) (t : List ℕ) (n : ℕ) (e : Entries) (T : Text t e) where
  abbrev reading : Call
  reading = load (text t) n

  abbrev of_text : List Refusal
  of_text = unformed ∷ out_in_text ∷ full_in_text ∷ []

  pub short_text : n < 64 → Answered N reading (refused 6 (at n)) N
  short_text = short_behind N reading n refl of_text refl (text_pass N t n e T)

  pub unfit_text : 64 ≤ n → (r : Refusal) (p : Place) → FirstFails N reading (own_checks reading) r p → Answered N reading (refused (number_of r) p) N
  unfit_text = unfit_behind N reading n refl of_text refl (text_pass N t n e T)

  pub untimed_text : 64 ≤ n → AllPass N reading (own_checks reading) → (K : Net) → After N reading K → (s : List CircuitStep) → Told K s → Answered N reading (refused 20 (around s)) N
  untimed_text = untimed_behind N reading n refl of_text refl (text_pass N t n e T)

  pub settled_text : 64 ≤ n → AllPass N reading (own_checks reading) → (K : Net) → After N reading K → HasTimetable K → Answered N reading done K
  settled_text long P K a h = settled_behind N reading n refl of_text refl (text_pass N t n e T) long P K a h done refl

-- Misread, it is refused with its fault
module _ (N : Net) (t : List ℕ) (n : ℕ) where
  pub misread_form : (o : ℕ) → Broken t o → Answered N (load (text t) n) (refused 1 (in_text None o)) N
  misread_form o b = refuse N (load (text t) n) unformed (in_text None o) (inl (refl, (t, o, refl, b, refl)))

  pub misread_number : (w o : ℕ) → texts.Refused t (Range w) o → Answered N (load (text t) n) (refused 2 (in_text (Some w) o)) N
  misread_number w o b =
      refuse N (load (text t) n) out_in_text (in_text (Some w) o)
      (inr (form_pass N t n (λ q. fault_whole t (Range w) o q b), inl (refl, (t, w, o, refl, b, refl))))

  pub misread_room : (k o : ℕ) → texts.Refused t (Capacity k) o → Answered N (load (text t) n) (refused 5 (in_text (Some k) o)) N
  misread_room k o b =
      refuse N (load (text t) n) full_in_text (in_text (Some k) o)
      (inr (
        form_pass N t n (λ q. fault_whole t (Capacity k) o q b),
        inr (numbers_pass N t n (λ w q r. range_capacity w k (fault_one t (Range w) (Capacity k) q o r b).0), inl (refl, (t, k, o, refl, b, refl))),
      ))

-- A close, by its three outcomes

link_in : (N : Net) (k : ℕ) → k ≤ 127 → Passes N (close k) out_of_range
link_in N k h = ranges_pass N (close k) _ refl ((omega arith, h), tt)

pub close_out : (N : Net) (k : ℕ) → 127 < k → Answered N (close k) (refused 2 (at 1)) N
close_out N k h = refuse N (close k) out_of_range (at 1) (inl (refl, (_, 1, refl, inl (inr h, refl), refl)))

pub close_none : (N : Net) (k : ℕ) → k ≤ 127 → get_or N.links k None ≡ None → Answered N (close k) (refused 14 (at k)) N
close_none N k h e = refuse N (close k) not_open (at k) (inr (link_in N k h, inl (refl, (k, refl, e, refl))))

pub close_done : (N : Net) (k : ℕ) (l : Link) → k ≤ 127 → Open N k l → Answered N (close k) done (with_link N k None)
close_done N k l h o = accept N (close k) done (with_link N k None) (link_in N k h, (open_pass N (close k) k l refl o, tt)) refl refl

-- A question, by its three outcomes
module _ (N : Net) (q : Question) where
  pub ask_out : (w : ℕ) → FirstOut (question_numbers N q) w → Answered N (ask q) (refused 2 (at w)) N
  ask_out w f = refuse N (ask q) out_of_range (at w) (inl (refl, (question_numbers N q, w, refl, f, refl)))

  module _ (ranged : AllIn (question_numbers N q)) where
    pub ask_none : (k : ℕ) → link_of (ask q) ≡ Some k → get_or N.links k None ≡ None → Answered N (ask q) (refused 14 (at k)) N
    ask_none k e f = refuse N (ask q) not_open (at k) (inr (ranges_pass N (ask q) (question_numbers N q) refl ranged, inl (refl, (k, e, f, refl))))

    pub ask_told : Passes N (ask q) not_open → (a : Answer) → Tells N q a → Answered N (ask q) a N
    ask_told h a t = accept N (ask q) a N (ranges_pass N (ask q) (question_numbers N q) refl ranged, (h, tt)) refl t

-- One call more at the end of a run

pub ran_push : {N K L : Net} (c : Call) {cs : List Call} (a : Answer) {rs : List Answer} → Ran N cs rs K → Answered K c a L → Ran N (cs ++ c ∷ []) (rs ++ a ∷ []) L
ran_push c a none s = more s none
ran_push c a (more t r) s = more t (ran_push c a r s)
