-- What a checked net is told: itself with its rates, or why it has none. Assumes nothing.
use Rattle.std.specs.Prelude.{◌≡◌, ℕ, List, take, drop, Ok, Err, Result}
use Rattle.rules.specs.Rates as rules
use Rattle.nets.specs.declared.Net.{Net}
use Rattle.nets.specs.declared.sound.SoundNet.{SoundNet}
use Rattle.nets.specs.Views.{of_net}
use Rattle.rates.specs.declared.RateFault.{RateFault}
use Rattle.rates.specs.declared.RateFault.TheVariants.{CutOff, NoRates}

-- The same net with another table of rates.
abbrev pub with_table : Net → List ℕ → Net
with_table M Z = record { stations = M.stations; durations = M.durations; rates = Z; links = M.links; pace = M.pace }

-- N is the net M with its rates: nothing else is changed, and the places of the table past the last station are as they were.
pub record Replaced (M N : Net) : Type 0 where
  pub only : N ≡ with_table M N.rates
  pub past : drop M.stations N.rates ≡ drop M.stations M.rates
  pub same : of_net N ≡ rules.with_rates (of_net M) (take M.stations N.rates)
  pub rated : rules.Rated (of_net N)

-- A joined net with rates gets them. Else the net is not joined, and the lowest station cut off is told; or it is joined and no numbers are its rates.
abbrev pub Told : Net → Result SoundNet RateFault → Type 0
Told M (Ok s) = rules.Joined (of_net M) × Replaced M s.net
Told M (Err (CutOff y)) = rules.CutOff (of_net M) y
Told M (Err NoRates) = rules.Joined (of_net M) × rules.NoRates (of_net M)
