-- What holds of the ledger. Assumes nothing.
use Rattle.std.specs.Prelude.{◌≡◌, ℕ, ◌≤◌, ◌⊎◌, ◌↔◌, List, [], ◌∷◌, ◌++◌, length, None, ◌≢◌, slice_index_or}
use Rattle.rules.specs.Net.{Net, Timetable, Sound, Fits}
use Rattle.rules.specs.Rules.{Keeps, HasTimetable, NoTimetable, Least}
use Rattle.rules.specs.Ranges.{InRange}
use Rattle.nets.specs.declared.CircuitStep.{CircuitStep}
use Rattle.timing.specs.Timing.{Told}
use Rattle.ledger.specs.Calls.{Question, Call, close, ask, Place, around, Answer, refused, done}
use Rattle.ledger.specs.States.{new_board, After}
use Rattle.ledger.specs.Checks.{Refusal, no_timetable, order}
use Rattle.ledger.specs.Runs.{Passes, Answered, Ran}

-- Two answers are the same, but for which circuit is told.
abbrev pub Same : Answer → Answer → Type 0
Same a b = (a ≡ b) ⊎ ((c : List CircuitStep) × (d : List CircuitStep) × (a ≡ refused 20 (around c)) × (b ≡ refused 20 (around d)))

abbrev pub AllSame : List Answer → List Answer → Type 0
AllSame [] [] = Unit {0}
AllSame [] (b ∷ bs) = ⊥
AllSame (a ∷ as') [] = ⊥
AllSame (a ∷ as') (b ∷ bs) = Same a b × AllSame as' bs

-- A call has one answer and leads to one state; so has a run.
abbrev pub Deterministic : Type 0
Deterministic =
    ((N : Net) (c : Call) (a b : Answer) (K L : Net) → Answered N c a K → Answered N c b L → Same a b × (K ≡ L))
    × ((N : Net) (cs : List Call) (as' bs : List Answer) (K L : Net) → Ran N cs as' K → Ran N cs bs L → AllSame as' bs × (K ≡ L))

-- A refused call and a question change nothing.
abbrev pub NothingChanges : Type 0
NothingChanges =
    ((N : Net) (c : Call) (n : ℕ) (p : Place) (L : Net) → Answered N c (refused n p) L → L ≡ N)
    × ((N : Net) (q : Question) (a : Answer) (L : Net) → Answered N (ask q) a L → L ≡ N)

-- What every state is: within the ranges, with rates that balance every link, and with a timetable.
pub record Held (N : Net) : Type 0 where
  pub sound : Sound N
  pub ranged : InRange N
  pub numbered : length N.links ≡ 128
  pub timed : HasTimetable N

abbrev pub StatesHeld : Type 0
StatesHeld =
    Held new_board
    × ((N : Net) (c : Call) (a : Answer) (L : Net) → Held N → Answered N c a L → Held L)
    × ((cs : List Call) (as' : List Answer) (N : Net) → Ran new_board cs as' N → Held N)

-- A close is never refused for want of a timetable. It closes its number and leaves every other link as it was,
-- and every timetable, in any fraction of a tick, is still one.
abbrev pub CloseKeeps : Type 0
CloseKeeps =
    (N : Net) (k : ℕ) (a : Answer) (L : Net) → Answered N (close k) a L →
    ((p : Place) → a ≢ refused 20 p)
    × (a ≡ done → (slice_index_or L.links k None ≡ None) × ((h : ℕ) → (h ≢ k) → slice_index_or L.links h None ≡ slice_index_or N.links h None))
    × ((T : Timetable) → Fits N T → Keeps N T → Fits L T × Keeps L T)

-- A call passes its earlier checks: all of its order but that for a timetable.
abbrev pub Among : Refusal → List Refusal → Type 0
Among r [] = ⊥
Among r (x ∷ xs) = (r ≡ x) ⊎ Among r xs

abbrev pub Earlier : Net → Call → Type 0
Earlier N c = (r : Refusal) → Among r (order c) → (r ≢ no_timetable) → Passes N c r

-- What a call that passes its earlier checks would bring about is within the ranges with balanced links, and every circuit that can be told of it fits into a list of 64 steps.
abbrev pub Offered : Type 0
Offered =
    (N : Net) → Held N → (c : Call) → Earlier N c →
    (K : Net) → After N c K → Sound K × InRange K × ((s : List CircuitStep) → Told K s → length s ≤ 64)

-- A call that passes its earlier checks is refused for want of a timetable exactly when what it would bring about has none.
abbrev pub TimetablesDecide : Type 0
TimetablesDecide =
    (N : Net) → Held N → (c : Call) (a : Answer) (L : Net) → Answered N c a L → Earlier N c →
    (K : Net) → After N c K → ((p : Place) × (a ≡ refused 20 p)) ↔ NoTimetable K

-- Every state has one least timetable.
abbrev pub LeastThere : Type 0
LeastThere = (N : Net) → Held N → (starts : List ℕ) × Least N starts × ((other : List ℕ) → Least N other → other ≡ starts)

-- The rule book is complete: there is no call without an answer.
abbrev pub Complete : Type 0
Complete = (N : Net) → Held N → (c : Call) → ((a : Answer) (L : Net) → Answered N c a L → ⊥) → ⊥

-- A run goes on from where it was.
abbrev pub RunsJoin : Type 0
RunsJoin =
    (N K L : Net) (cs ds : List Call) (as' bs : List Answer) → Ran N cs as' K → Ran K ds bs L → Ran N (cs ++ ds) (as' ++ bs) L

-- Whatever a run from the new board is asked on its way: it was answered in a state that the calls before it led to, and, where it passed its earlier checks,
-- it was refused for want of a timetable exactly when what it would have brought about has none.
pub record Halfway (cs : List Call) (c : Call) (rs : List Answer) : Type 0 where
  pub before : List Answer
  pub answer : Answer
  pub behind : List Answer
  pub all : rs ≡ before ++ answer ∷ behind
  pub state : Net
  pub ran : Ran new_board cs before state
  pub held : Held state
  pub decides :
      Earlier state c → (K : Net) → After state c K → ((p : Place) × (answer ≡ refused 20 p)) ↔ NoTimetable K

abbrev pub RunsDecide : Type 0
RunsDecide = (cs ds : List Call) (c : Call) (rs : List Answer) (L : Net) → Ran new_board (cs ++ c ∷ ds) rs L → Halfway cs c rs
