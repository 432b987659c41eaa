-- What a draft's faults tell, and when a number is in range. Assumes nothing.
use Rattle.std.specs.Prelude.{◌≡◌, ℕ, ◌+◌, ◌-◌, ◌^◌, ◌<◌, min, Bool, cond, ◌||◌, Some, None, Ok, Err, Option, Result, nat_le, nat_lt}
use Rattle.drafts.specs.declared.fault.DraftFault.{DraftFault}
use Rattle.drafts.specs.declared.fault.DraftFault.TheVariants.{Range, Missing, PastSize, Capacity}

-- The refusal's number and the place that is told: which number of the entry, entries held, the size, the link.
abbrev pub told_of : DraftFault → ℕ × ℕ
told_of (Range which) = (2, which)
told_of (Missing held) = (3, held)
told_of (PastSize size) = (4, size)
told_of (Capacity link) = (5, link)

-- The number does not lie from low to high.
abbrev pub outside : ℕ → ℕ → ℕ → Bool
outside low high value = nat_lt value low || nat_lt high value

-- The fault of a check, if there is one.
abbrev pub faulted : Result (Unit {0}) DraftFault → Option DraftFault
faulted (Ok _) = None
faulted (Err f) = Some f

-- The first of two faults, if there is one.
abbrev pub or_else : Option DraftFault → Option DraftFault → Option DraftFault
or_else None g = g
or_else (Some f) g = Some f

abbrev pub fault_if : Bool → DraftFault → Option DraftFault
fault_if b f = cond b (Some f) None

abbrev pub range_fault : ℕ → ℕ → ℕ → ℕ → Option DraftFault
range_fault which low high value = fault_if (outside low high value) (Range which)

abbrev pub station_fault : ℕ → ℕ → ℕ → Option DraftFault
station_fault which stations value = fault_if (nat_le stations value) (Range which)

-- The value, where there is no fault of it.
abbrev pub judged_by : Option DraftFault → ℕ → Result ℕ DraftFault
judged_by None value = Ok value
judged_by (Some f) value = Err f

-- The number, where it lies from low to high; else the fault that tells which number of its entry it is.
abbrev pub judged : ℕ → ℕ → ℕ → ℕ → Result ℕ DraftFault
judged which low high value = judged_by (range_fault which low high value) value

-- The same for a station: it is one of so many, numbered from 0.
abbrev pub placed : ℕ → ℕ → ℕ → Result ℕ DraftFault
placed which stations value = judged_by (station_fault which stations value) value

-- A number of more than 64 bits has the fault of the largest of 64 bits, and none is in range from there on.
pub record Capped (fault : ℕ → Option DraftFault) : Type 0 where
  pub same : (v : ℕ) → fault v ≡ fault (min v (2 ^ 64 - 1))
  pub small : (v : ℕ) → fault v ≡ None → v + 1 < 2 ^ 64
