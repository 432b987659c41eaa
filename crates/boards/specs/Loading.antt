-- What a load makes of a board, and what it leaves in the caller's list. Assumes nothing.
use Rattle.std.specs.Prelude.{◌≡◌, ◌<◌, ◌≤◌, List, length, Ok, Err, Result}
use Rattle.rules.specs.Net.{Net}
use Rattle.rules.specs.Rules.{Least}
use Rattle.nets.specs.declared.CircuitStep.{CircuitStep}
use Rattle.drafts.specs.declared.stage.NetSizes.{NetSizes}
use Rattle.drafts.specs.declared.tables.Tables.{Tables}
use Rattle.boards.specs.declared.board.Board.{Board}
use Rattle.offers.specs.declared.refusal.Refusal.{Refusal}
use Rattle.offers.specs.declared.refusal.Refusal.TheVariants.{ShortList, Draft, Call, CutOff, NoRates, NoTimetable, NoPace}
use Rattle.offers.specs.Offers.{Offer, Offers}
use Rattle.boards.specs.Settling.{net_of, starts_of, Written}

-- Nothing has changed.
abbrev pub Same : Board → List CircuitStep → Board → List CircuitStep → Type 0
Same b list b' list' = (b' ≡ b) × (list' ≡ list)

-- A load. The checks are, in this order: the list is long enough, no entry is at fault, the net is joined, it has rates, it has a timetable.
-- An accepted net replaces the board's, with its least timetable. A refusal changes nothing, but for the circuit that it writes into the list for want of a timetable.
abbrev pub Loaded : NetSizes → Tables → Board → List CircuitStep → Result (Unit {0}) Refusal → Board → List CircuitStep → Type 0
Loaded s t b list (Ok _) b' list' = (64 ≤ length list) × Offer s t (net_of b') × Least (net_of b') (starts_of b') × (list' ≡ list)
Loaded s t b list (Err (ShortList n)) b' list' = (length list < 64) × (n ≡ length list) × Same b list b' list'
Loaded s t b list (Err (Draft f)) b' list' = (64 ≤ length list) × Offers s t (Err (Draft f)) × Same b list b' list'
Loaded s t b list (Err (Call f)) b' list' = ⊥
Loaded s t b list (Err (CutOff y)) b' list' = (64 ≤ length list) × Offers s t (Err (CutOff y)) × Same b list b' list'
Loaded s t b list (Err NoRates) b' list' = (64 ≤ length list) × Offers s t (Err NoRates) × Same b list b' list'
Loaded s t b list (Err (NoTimetable n)) b' list' = (64 ≤ length list) × ((N : Net) × Offer s t N × Written N n list list') × (b' ≡ b)
Loaded s t b list (Err NoPace) b' list' = ⊥
