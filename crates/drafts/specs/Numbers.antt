-- The ranges of an entry's numbers. Assumes nothing.
use Rattle.std.specs.Prelude.{ℕ, Option}
use Rattle.drafts.specs.declared.fault.DraftFault.{DraftFault}
use Rattle.drafts.specs.declared.numbers.Number.{Number}
use Rattle.drafts.specs.declared.numbers.Number.TheVariants.{Stations, Links, Share, Unit, Duration, Station, Batch, Stock, Capacity}
use Rattle.drafts.specs.Faults.{range_fault, station_fault}

-- A number's fault, at any value: each has its range, and a station is one of so many.
abbrev pub fault_of : Number → ℕ → Option DraftFault
fault_of Stations v = range_fault 1 1 64 v
fault_of Links v = range_fault 2 0 128 v
fault_of Share v = range_fault 3 1 1_000_000 v
fault_of Unit v = range_fault 4 1 10_000_000_000 v
fault_of Duration v = range_fault 1 1 10_000 v
fault_of (Station which stations) v = station_fault which stations v
fault_of (Batch which) v = range_fault which 1 1_000 v
fault_of Stock v = range_fault 3 0 10_000 v
fault_of Capacity v = range_fault 4 0 10_000 v
