-- The numbers and places of refusals. Assumes nothing.
use Rattle.std.specs.Prelude.{ℕ, Some, None, Option}
use Rattle.drafts.specs.Faults as drafts
use Rattle.checks.specs.Faults as calls
use Rattle.rates.specs.declared.RateFault.{RateFault}
use Rattle.rates.specs.declared.RateFault.TheVariants as rates
use Rattle.offers.specs.declared.refusal.Refusal.{Refusal}
use Rattle.offers.specs.declared.refusal.Refusal.TheVariants.{ShortList, Draft, Call, CutOff, NoRates, NoTimetable, NoPace}

-- The refusal's number, and the place that is told, if there is one: the list's length, the draft's place, the station, the count of the circuit's steps.
abbrev pub told_of : Refusal → ℕ × Option ℕ
told_of (ShortList length) = (6, Some length)
told_of (Draft fault) = ((drafts.told_of fault).0, Some (drafts.told_of fault).1)
told_of (Call fault) = ((calls.told_of fault).0, Some (calls.told_of fault).1)
told_of (CutOff station) = (10, Some station)
told_of NoRates = (11, None)
told_of (NoTimetable steps) = (20, Some steps)
told_of NoPace = (21, None)

-- A net without rates, as a refusal.
abbrev pub of_rates : RateFault → Refusal
of_rates (rates.CutOff station) = CutOff station
of_rates rates.NoRates = NoRates
