-- What becomes of a board that is offered a net. Assumes nothing.
use Rattle.std.specs.Prelude.{◌≡◌, ℕ, ◌≤◌, List, take, drop, Ok, Err, Result}
use Rattle.rules.specs.Net.{Net}
use Rattle.rules.specs.Rules.{Least}
use Rattle.nets.specs.declared.CircuitStep.{CircuitStep}
use Rattle.nets.specs.Views.{of_net}
use Rattle.timing.specs.Timing.{Told}
use Rattle.offers.specs.declared.refusal.Refusal.{Refusal}
use Rattle.offers.specs.declared.refusal.Refusal.TheVariants.{ShortList, Draft, Call, CutOff, NoRates, NoTimetable, NoPace}
use Rattle.boards.specs.declared.board.Board.{Board}

-- The net that a board holds, and the starts that it shows.
abbrev pub net_of : Board → Net
net_of b = of_net b.timed.net.net

abbrev pub starts_of : Board → List ℕ
starts_of b = take b.timed.net.net.stations b.timed.starts

-- A circuit of n steps stands at the front of the list, and what is behind it is as it was.
pub record Written (N : Net) (n : ℕ) (list list' : List CircuitStep) : Type 0 where
  pub few : n ≤ 64
  pub told : Told N (take n list')
  pub rest : drop n list' ≡ drop n list

-- The board takes the net N, with its least timetable; or N has none, a circuit of it stands at the front of the list, and the board is as it was.
abbrev pub Settled : Net → Board → List CircuitStep → Result (Unit {0}) Refusal → Board → List CircuitStep → Type 0
Settled N b list (Ok _) b' list' = (net_of b' ≡ N) × Least N (starts_of b') × (list' ≡ list)
Settled N b list (Err (NoTimetable n)) b' list' = Written N n list list' × (b' ≡ b)
Settled N b list (Err (ShortList n)) b' list' = ⊥
Settled N b list (Err (Draft f)) b' list' = ⊥
Settled N b list (Err (Call f)) b' list' = ⊥
Settled N b list (Err (CutOff y)) b' list' = ⊥
Settled N b list (Err NoRates) b' list' = ⊥
Settled N b list (Err NoPace) b' list' = ⊥
