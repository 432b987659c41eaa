-- What the reader of a net text answers.
use Rattle.std.specs.Prelude.{◌≡◌, ℕ, List, take, drop, Ok, Err, Result}
use Rattle.drafts.specs.declared.fault.DraftFault.{DraftFault}
use Rattle.drafts.specs.declared.stage.NetSizes.{NetSizes}
use Rattle.drafts.specs.declared.stage.Filled.{Filled}
use Rattle.drafts.specs.declared.tables.Tables.{Tables}
use Rattle.drafts.specs.Stages.{blank}
use Rattle.forms.specs.Form.{Outcome, got, run}
use Rattle.texts.specs.declared.fault.TextFault.{TextFault}
use Rattle.texts.specs.Faults.{Worded, said}
use Rattle.texts.specs.NetText.{Entries}
use Rattle.texts.specs.NetForm.{net_form}

-- the entries in the tables, as many as the sizes say
abbrev pub entries_of : NetSizes → Tables → Entries
entries_of s t =
    record {
      sizes = s;
      durations = take s.stations t.durations;
      ends = take s.links t.ends;
      terms = take s.links t.terms;
    }

-- behind its entries the tables are blank
pub record BlankBehind (s : NetSizes) (t : Tables) : Type 0 where
  pub durations : drop s.stations t.durations ≡ drop s.stations blank.durations
  pub ends : drop s.links t.ends ≡ drop s.links blank.ends
  pub terms : drop s.links t.terms ≡ drop s.links blank.terms

-- what was found: the entries that the tables hold then, or the fault
abbrev pub outcome : Result Filled TextFault → Tables → Outcome DraftFault Entries
outcome (Ok f) t = got (entries_of f.sizes t)
outcome (Err e) t = said e

-- the tables are filled as the form says
abbrev pub Fills : List ℕ → Result Filled TextFault → Tables → Type 0
Fills t (Ok f) tables = (got (entries_of f.sizes tables) ≡ run 0 net_form t) × BlankBehind f.sizes tables
Fills t (Err e) tables = (said e ≡ run 0 net_form t) × Worded t e
