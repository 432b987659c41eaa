-- Paces of a net. Assumes nothing.
use Rattle.std.specs.Prelude.{◌≡◌, ℕ, ◌*◌, ◌/◌, ◌<◌, ◌≤◌, cond, List, ℤ, pos, neg_ℤ, int_lt, unsigned_abs}
use Rattle.handover.specs.Gcd.{gcd}
use Rattle.rules.specs.Net as rules
use Rattle.rules.specs.Rules.{HasTimetable, NoPace}
use Rattle.rules.specs.Paces.{Fastest}
use Rattle.rules.specs.Steps.{Step, Circuit, shares_of, time_of}
use Rattle.nets.specs.declared.Net.{Net}
use Rattle.nets.specs.declared.Pace.{Pace}
use Rattle.timing.specs.declared.Raised.{Raised}
use Rattle.timing.specs.declared.Raised.TheVariants.{Enough, To, Never}

-- The same net at another pace.
abbrev pub with_pace : Net → Pace → Net
with_pace N p = record { stations = N.stations; durations = N.durations; rates = N.rates; links = N.links; pace = p }

-- A pace that a net can have.
pub record PaceInRange (p : Pace) : Type 0 where
  pub share : (1 ≤ p.share) × (p.share ≤ 1_000_000)
  pub unit : (1 ≤ p.unit) × (p.unit ≤ 10_000_000_000)

-- The pair of steps together.
abbrev pub pair_of : rules.Net → List Step → ℤ × ℤ
pair_of N c = (shares_of N c, pos (time_of N c))

-- The circuit of the steps names the pace: its time is the share, and its shares are minus the unit. So no pace below it has a timetable.
pub record Named (N : rules.Net) (p : Pace) : Type 0 where
  pub steps : List Step
  pub circuit : Circuit N steps
  pub shares : shares_of N steps ≡ neg_ℤ (pos p.unit)
  pub time : time_of N steps ≡ p.share
  pub share : (1 ≤ p.share) × (p.share ≤ 640_000)
  pub unit : (1 ≤ p.unit) × (p.unit ≤ 6_400_000_000)

-- What a circuit with the pair says of paces, where it leaves no timetable at one: a slower one that it names, or that there is none.
abbrev pub named_by : ℤ × ℤ → Raised
named_by p = cond (int_lt p.0 (pos 0)) (To (record { share = unsigned_abs p.1; unit = unsigned_abs p.0 })) Never

-- What one round finds at a pace: a timetable; or a slower pace that a circuit names; or that no pace has a timetable.
abbrev pub Raises : rules.Net → Pace → Raised → Type 0
Raises N p Enough = HasTimetable (rules.at_pace_lem N p.share p.unit)
Raises N p (To q) = Named N q × (p.share * q.unit < p.unit * q.share)
Raises N p Never = NoPace N

-- A station's own pace, its duration over its rate, that no station's own pace passes.
pub record FirstPace (N : rules.Net) (p : Pace) : Type 0 where
  pub station : ℕ
  pub inside : station < rules.stations N
  pub share : p.share ≡ rules.duration N station
  pub unit : p.unit ≡ rules.rate N station
  pub greatest : (i : ℕ) → i < rules.stations N → rules.duration N i * p.unit ≤ p.share * rules.rate N i

-- A pace in lowest terms.
abbrev pub lowest_terms : Pace → Pace
lowest_terms p = record { share = p.share / gcd p.share p.unit; unit = p.unit / gcd p.share p.unit }

-- The fastest pace of the net, in lowest terms, and one that a net can have.
abbrev pub FastestPace : rules.Net → Pace → Type 0
FastestPace N p = Fastest N p.share p.unit × PaceInRange p
