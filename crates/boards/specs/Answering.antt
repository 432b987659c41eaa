-- What a board answers, as the ledger has it. Assumes nothing.
use Rattle.std.specs.Prelude.{◌≡◌, ℕ, List, take, Some, None, Ok, Err, Result}
use Rattle.rules.specs.Net.{Net}
use Rattle.nets.specs.declared.CircuitStep.{CircuitStep}
use Rattle.drafts.specs.Faults as drafts
use Rattle.drafts.specs.declared.fault.DraftFault.{DraftFault}
use Rattle.texts.specs.declared.fault.TextFault.{TextFault}
use Rattle.texts.specs.declared.fault.TextFault.TheVariants as texts
use Rattle.checks.specs.Faults as calls
use Rattle.ledger.specs.Calls.{Call as Request, Place, nowhere, at, in_text, around, Answer, refused, done}
use Rattle.ledger.specs.Checks.{list_of, own_checks, with_list, order}
use Rattle.ledger.specs.Runs.{Value, Answered, list_after}
use Rattle.offers.specs.declared.refusal.Refusal.{Refusal}
use Rattle.offers.specs.declared.refusal.Refusal.TheVariants.{ShortList, Draft, Call, CutOff, NoRates, NoTimetable, NoPace}
use Rattle.boards.specs.declared.board.Board.{Board}
use Rattle.boards.specs.declared.text.LoadFault.{LoadFault}
use Rattle.boards.specs.declared.text.LoadFault.TheVariants as loads
use Rattle.boards.specs.Settling.{net_of}

-- A refusal by its number and place; one for want of a timetable tells the circuit at the front of the list.
abbrev pub refusal_answer : Refusal → List CircuitStep → Answer
refusal_answer (ShortList n) list = refused 6 (at n)
refusal_answer (Draft f) list = refused (drafts.told_of f).0 (at (drafts.told_of f).1)
refusal_answer (Call f) list = calls.refusal_of f
refusal_answer (CutOff y) list = refused 10 (at y)
refusal_answer NoRates list = refused 11 nowhere
refusal_answer (NoTimetable n) list = refused 20 (around (take n list))
refusal_answer NoPace list = refused 21 nowhere

abbrev pub change_answer : Result (Unit {0}) Refusal → List CircuitStep → Answer
change_answer (Ok _) list = done
change_answer (Err r) list = refusal_answer r list

-- A text's fault: its form is left there; or the number there is at fault, which the draft tells.
abbrev pub number_answer : DraftFault → ℕ → Answer
number_answer f offset = refused (drafts.told_of f).0 (in_text (Some (drafts.told_of f).1) offset)

abbrev pub misread_answer : TextFault → Answer
misread_answer (texts.Form w) = refused 1 (in_text None w.at)
misread_answer (texts.Draft f w) = number_answer f w.at

abbrev pub text_answer : Result (Unit {0}) LoadFault → List CircuitStep → Answer
text_answer (Ok _) list = done
text_answer (Err (loads.Board r)) list = refusal_answer r list
text_answer (Err (loads.Text f)) list = misread_answer f

-- The call c is answered a, from b to b': as the ledger has it; the list holds the circuit that is told, and else what it held; a refusal leaves the board as it was.
pub record Changed (b : Board) (c : Request) (list : List CircuitStep) (a : Answer) (b' : Board) (list' : List CircuitStep) : Type 0 where
  pub answered : Answered (net_of b) c a (net_of b')
  pub written : list' ≡ list_after a list
  pub kept : (number : ℕ) (place : Place) → a ≡ refused number place → b' ≡ b

-- The call is a change that is handed a list of n steps, and is checked for it first.
pub record Handed (L : Net) (c : Request) (n : ℕ) : Type 0 where
  pub list : list_of c ≡ Some n
  pub ordered : order c ≡ with_list (own_checks c)
  pub done : Value L c done
