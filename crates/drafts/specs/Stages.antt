-- Blank tables, and the fault of an entry past the size. Assumes nothing.
use Rattle.std.specs.Prelude.{ℕ, replicate, Some, None, Option, nat_le}
use Rattle.drafts.specs.declared.tables.Tables.{Tables}
use Rattle.drafts.specs.declared.stage.NetSizes.{NetSizes}
use Rattle.drafts.specs.declared.fault.DraftFault.{DraftFault}
use Rattle.drafts.specs.declared.fault.DraftFault.TheVariants.{PastSize}
use Rattle.drafts.specs.Faults.{fault_if}

-- Tables that hold nothing yet.
abbrev pub blank : Tables
blank = record {
  durations = replicate 64 0;
  ends = replicate 128 (record { from = 0; to = 0 });
  terms = replicate 128 (record { produced = 0; consumed = 0; stock = 0; capacity = None });
}

-- An entry past the size: so many are held.
abbrev pub past : ℕ → ℕ → Option DraftFault
past size held = fault_if (nat_le size held) (PastSize size)

-- How many entries of sizes are held, of which there is one.
abbrev pub sizes_held : Option NetSizes → ℕ
sizes_held None = 0
sizes_held (Some s) = 1
