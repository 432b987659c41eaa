-- The programs' net, link and step, as the rules have them. Assumes nothing.
use Rattle.std.specs.Prelude.{◌≡◌, ℕ, ◌≤◌, map, length, take, pos, Some, None, Option}
use Rattle.rules.specs.Net as rules
use Rattle.rules.specs.Ranges.{InRange, Checked}
use Rattle.rules.specs.Steps as steps
use Rattle.nets.specs.declared.LinkEnds.{LinkEnds}
use Rattle.nets.specs.declared.LinkTerms.{LinkTerms}
use Rattle.nets.specs.declared.Link.{Link}
use Rattle.nets.specs.declared.Net.{Net}
use Rattle.nets.specs.declared.Step.{Step}
use Rattle.nets.specs.declared.Step.TheVariants.{Forward, Back, Own}
use Rattle.nets.specs.declared.CircuitStep.{CircuitStep}

abbrev pub of_parts : LinkEnds → LinkTerms → rules.Link
of_parts e t = record { i = e.from; j = e.to; w = t.produced; v = t.consumed; u = t.stock; c = t.capacity }

abbrev pub of_link : Link → rules.Link
of_link l = of_parts l.ends l.terms

abbrev pub of_slot : Option Link → Option rules.Link
of_slot None = None
of_slot (Some l) = Some (of_link l)

abbrev pub of_net : Net → rules.Net
of_net N = record {
  durations = take N.stations N.durations;
  rates = take N.stations N.rates;
  A = N.pace.share;
  B = N.pace.unit;
  links = map of_slot N.links;
}

abbrev pub of_step : Step → steps.Step
of_step (Forward k) = steps.forward k
of_step (Back k) = steps.back k
of_step (Own i) = steps.own i

abbrev pub step_of : CircuitStep → steps.Step
step_of s = of_step s.step

-- The number of the step's link or station.
abbrev pub step_number : Step → ℕ
step_number (Forward k) = k
step_number (Back k) = k
step_number (Own i) = i

-- What stands for a step where a list has none.
abbrev pub no_step : CircuitStep
no_step = record { step = Forward 0; length = pos 0 }

-- The tables have their lengths.
pub record Whole (N : Net) : Type 0 where
  pub few : N.stations ≤ 64
  pub long : length N.durations ≡ 64
  pub rated : length N.rates ≡ 64
  pub numbered : length N.links ≡ 128

-- What a checked net is: whole, with all that is asked of it before it has rates.
pub record Ranged (N : Net) : Type 0 where
  pub whole : Whole N
  pub checked : Checked (of_net N)

-- What a sound net is: whole, with rates that balance every link, and in range.
pub record Good (N : Net) : Type 0 where
  pub whole : Whole N
  pub sound : rules.Sound (of_net N)
  pub range : InRange (of_net N)
