-- What is reported of a net text. Assumes nothing.
use Rattle.std.specs.Prelude.{ℕ, List, Some, Err, Result}
use Rattle.rules.specs.Net.{Net, stations}
use Rattle.rules.specs.Rules.{Least}
use Rattle.nets.specs.declared.CircuitStep.{CircuitStep}
use Rattle.drafts.specs.Faults as drafts
use Rattle.drafts.specs.declared.fault.DraftFault.{DraftFault}
use Rattle.drafts.specs.declared.stage.NetSizes.{NetSizes}
use Rattle.drafts.specs.declared.tables.Tables.{Tables}
use Rattle.timing.specs.Timing.{Told}
use Rattle.texts.specs.NetText.{Text, Refused, Broken}
use Rattle.texts.specs.Outcomes.{entries_of}
use Rattle.reports.specs.declared.report.ShortBuffer.{ShortBuffer}
use Rattle.reports.specs.Bytes.{timetable_bytes, circuit_bytes, refusal_bytes}
use Rattle.reports.specs.Reported.{Reported}
use Rattle.offers.specs.declared.refusal.Refusal.{Refusal}
use Rattle.offers.specs.Refusals.{told_of}
use Rattle.offers.specs.Offers.{Offer, Offers}
use Rattle.boards.specs.Showing.{periods_of}

-- The bytes that are reported of a text.
pub data Reports (text : List ℕ) : List ℕ → Type 0 where
  -- It leaves its form at p.
  unformed : (p : ℕ) → Broken text p → Reports text (refusal_bytes 1 (Some p))
  -- The number that begins at p is refused.
  misnumbered : (f : DraftFault) (p : ℕ) → Refused text f p → Reports text (refusal_bytes (drafts.told_of f).0 (Some p))
  -- It spells a draft that offers no net.
  unoffered : (s : NetSizes) (t : Tables) (r : Refusal) → Text text (entries_of s t) → Offers s t (Err r) → Reports text (refusal_bytes (told_of r).0 (told_of r).1)
  -- It spells a draft whose net has a timetable: the least one is told.
  timed : (s : NetSizes) (t : Tables) (N : Net) (starts : List ℕ) → Text text (entries_of s t) → Offer s t N → Least N starts → Reports text (timetable_bytes (stations N) starts (periods_of N))
  -- It spells a draft whose net has none: a circuit is told.
  untimed : (s : NetSizes) (t : Tables) (N : Net) (c : List CircuitStep) → Text text (entries_of s t) → Offer s t N → Told N c → Reports text (circuit_bytes c)

-- These bytes stand at the front of the buffer, and all else is as it was; or the buffer is too short, and stays as it was.
pub record Planned (text out out' : List ℕ) (r : Result ℕ ShortBuffer) : Type 0 where
  pub bytes : List ℕ
  pub reports : Reports text bytes
  pub written : Reported bytes out out' r
