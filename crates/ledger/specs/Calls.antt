-- The calls of a board with their arguments, and what may be answered. Assumes nothing.
use Rattle.std.specs.Prelude.{ℕ, List, Option}
use Rattle.rules.specs.Net.{Link}
use Rattle.nets.specs.declared.CircuitStep.{CircuitStep}
use Rattle.texts.specs.NetText.{Entries}

-- What is loaded: the entries of a draft as they are at the call, or the bytes of a net text.
pub data Source : Type 0 where
  entries : Entries → Source
  text : List ℕ → Source

-- Settings replace one value that the board holds.
pub data Setting : Type 0 where
  duration_to : (station duration : ℕ) → Setting
  stock_to : (link stock : ℕ) → Setting
  capacity_to : (link : ℕ) (capacity : Option ℕ) → Setting
  pace_to : (A B : ℕ) → Setting

-- Questions only read.
pub data Question : Type 0 where
  start_of : (station : ℕ) → Question
  period_of : (station : ℕ) → Question
  stock_at : (link tick : ℕ) → Question
  taken_at : (link tick : ℕ) → Question
  link_at : (link : ℕ) → Question
  duration_of : (station : ℕ) → Question
  rate_of : (station : ℕ) → Question
  pace_held : Question
  pace_fastest : Question
  timetable_shown : Question

-- A call that may be refused for want of a timetable is handed a list for the circuit; of it only the length counts here.
pub data Call : Type 0 where
  load : (source : Source) (list : ℕ) → Call
  open_link : (number : ℕ) (link : Link) (list : ℕ) → Call
  close : (number : ℕ) → Call
  put : (setting : Setting) (list : ℕ) → Call
  ask : (question : Question) → Call

-- Where a refusal is: nowhere; at a number; in a text, at a place of its draft, where there is one, and at a byte offset; around a circuit, told by its steps with their lengths.
pub data Place : Type 0 where
  nowhere : Place
  at : ℕ → Place
  in_text : (of_draft : Option ℕ) (offset : ℕ) → Place
  around : List CircuitStep → Place

-- A refusal is told by its number and place. A change that is made is done. A question is told a number, a fraction, a link's ends and terms, or the stations' starts and periods.
pub data Answer : Type 0 where
  refused : (number : ℕ) (place : Place) → Answer
  done : Answer
  value : ℕ → Answer
  fraction : (A B : ℕ) → Answer
  ends_and_terms : Link → Answer
  timetable : (starts periods : List ℕ) → Answer
