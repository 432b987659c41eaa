-- What a load of a text makes of a board. Assumes nothing.
use Rattle.std.specs.Prelude.{ℕ, List, Ok, Err, Result}
use Rattle.nets.specs.declared.CircuitStep.{CircuitStep}
use Rattle.drafts.specs.declared.stage.NetSizes.{NetSizes}
use Rattle.drafts.specs.declared.tables.Tables.{Tables}
use Rattle.drafts.specs.Checks.{WholeTables}
use Rattle.texts.specs.Faults.{Worded, said}
use Rattle.texts.specs.NetText as texts
use Rattle.texts.specs.Outcomes.{entries_of}
use Rattle.boards.specs.declared.board.Board as boards
use Rattle.boards.specs.declared.text.LoadFault.{LoadFault}
use Rattle.boards.specs.declared.text.LoadFault.TheVariants.{Text, Board}
use Rattle.boards.specs.Loading.{Same, Loaded}

-- The text spells the entries of a draft, and r is what a load of that draft answers.
pub record ByDraft (text : List ℕ) (P : NetSizes → Tables → Type 0) : Type 0 where
  pub sizes : NetSizes
  pub tables : Tables
  pub whole : WholeTables tables
  pub spelt : texts.Text text (entries_of sizes tables)
  pub loads : P sizes tables

-- A text that is a net text is loaded as the draft of its entries. A text at fault changes nothing; the fault is the first one met, with the word there.
abbrev pub LoadedText : List ℕ → boards.Board → List CircuitStep → Result (Unit {0}) LoadFault → boards.Board → List CircuitStep → Type 0
LoadedText text b list (Ok _) b' list' = ByDraft text (λ s t. Loaded s t b list (Ok tt) b' list')
LoadedText text b list (Err (Board r)) b' list' = ByDraft text (λ s t. Loaded s t b list (Err r) b' list')
LoadedText text b list (Err (Text f)) b' list' = texts.Right text (said f) × Worded text f × Same b list b' list'
