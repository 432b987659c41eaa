-- The faults of one entry by itself. Assumes nothing.
use Rattle.std.specs.Prelude.{◌≡◌, ℕ, List, Some, None, Option, nat_lt}
use Rattle.nets.specs.declared.LinkEnds.{LinkEnds}
use Rattle.nets.specs.declared.LinkTerms.{LinkTerms}
use Rattle.drafts.specs.declared.stage.NetSizes.{NetSizes}
use Rattle.drafts.specs.declared.tables.Tables.{Tables}
use Rattle.drafts.specs.declared.fault.DraftFault.{DraftFault}
use Rattle.drafts.specs.declared.fault.DraftFault.TheVariants.{Capacity}
use Rattle.drafts.specs.Faults.{or_else, fault_if, range_fault, station_fault}

-- The first fault of an entry by itself, in the order of its numbers.
abbrev pub sizes_fault : NetSizes → Option DraftFault
sizes_fault e =
    or_else (range_fault 1 1 64 e.stations)
    (or_else (range_fault 2 0 128 e.links)
    (or_else (range_fault 3 1 1_000_000 e.pace.share) (range_fault 4 1 10_000_000_000 e.pace.unit)))

abbrev pub duration_fault : ℕ → Option DraftFault
duration_fault d = range_fault 1 1 10_000 d

abbrev pub ends_fault : ℕ → LinkEnds → Option DraftFault
ends_fault stations e = or_else (station_fault 1 stations e.from) (station_fault 2 stations e.to)

-- A capacity that is out of range, and then one that is below the stock.
abbrev pub capacity_fault : Option ℕ → Option DraftFault
capacity_fault None = None
capacity_fault (Some c) = range_fault 4 0 10_000 c

abbrev pub below_stock : ℕ → ℕ → Option ℕ → Option DraftFault
below_stock link stock None = None
below_stock link stock (Some c) = fault_if (nat_lt c stock) (Capacity link)

abbrev pub room_fault : ℕ → LinkTerms → Option DraftFault
room_fault link t = below_stock link t.stock t.capacity

abbrev pub terms_fault : LinkTerms → Option DraftFault
terms_fault t =
    or_else (range_fault 1 1 1_000 t.produced)
    (or_else (range_fault 2 1 1_000 t.consumed) (or_else (range_fault 3 0 10_000 t.stock) (capacity_fault t.capacity)))

-- A column of the tables, and the tables with another in its place: they have that one then, and nothing else has changed.
pub record IsColumn {E : Type 0} (column : Tables → List E) (with_column : Tables → List E → Tables) : Type 0 where
  pub got : (t : Tables) (xs : List E) → column (with_column t xs) ≡ xs
  pub last : (t : Tables) (xs ys : List E) → with_column (with_column t xs) ys ≡ with_column t ys
  pub own : (t : Tables) → with_column t (column t) ≡ t
