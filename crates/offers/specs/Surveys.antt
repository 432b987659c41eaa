-- What a survey tells of a draft. Assumes nothing.
use Rattle.std.specs.Prelude.{Ok, Err, Result}
use Rattle.rules.specs.Net.{Net}
use Rattle.rules.specs.Rules as rules
use Rattle.rules.specs.Paces.{Fastest}
use Rattle.nets.specs.Views.{of_net}
use Rattle.drafts.specs.declared.stage.NetSizes.{NetSizes}
use Rattle.drafts.specs.declared.tables.Tables.{Tables}
use Rattle.timing.specs.Pacing.{PaceInRange}
use Rattle.offers.specs.declared.refusal.Refusal.{Refusal}
use Rattle.offers.specs.declared.refusal.Refusal.TheVariants.{ShortList, Draft, Call, CutOff, NoRates, NoTimetable, NoPace}
use Rattle.offers.specs.declared.survey.NetSurvey.{NetSurvey}
use Rattle.offers.specs.Offers.{Offer, Offers}

-- The draft's net with its rates, and its fastest pace, which is one that a net can have.
pub record Told (s : NetSizes) (t : Tables) (v : NetSurvey) : Type 0 where
  pub offer : Offer s t (of_net v.net.net)
  pub fastest : Fastest (of_net v.net.net) v.fastest.share v.fastest.unit
  pub range : PaceInRange v.fastest

-- They are told; or the first check that fails: an entry at fault, a station cut off, no rates, no pace with a timetable.
abbrev pub Surveyed : NetSizes → Tables → Result NetSurvey Refusal → Type 0
Surveyed s t (Ok v) = Told s t v
Surveyed s t (Err (Draft f)) = Offers s t (Err (Draft f))
Surveyed s t (Err (Call f)) = ⊥
Surveyed s t (Err (CutOff y)) = Offers s t (Err (CutOff y))
Surveyed s t (Err NoRates) = Offers s t (Err NoRates)
Surveyed s t (Err NoPace) = (N : Net) × Offer s t N × rules.NoPace N
Surveyed s t (Err (ShortList length)) = ⊥
Surveyed s t (Err (NoTimetable steps)) = ⊥
