-- What is answered of a net: its least timetable, or a circuit that leaves it none. Assumes nothing.
use Rattle.std.specs.Prelude.{◌≡◌, ℕ, ◌<◌, ◌≤◌, List, map, length, pos, ◌<ℤ◌, slice_index, slice_index_or, unsigned_abs}
use Rattle.rules.specs.Net as rules
use Rattle.rules.specs.Rules.{NoTimetable}
use Rattle.rules.specs.Steps.{Circuit as Closed, leads_from, ticks, ticks_of}
use Rattle.lengths.specs.declared.Ticks.{Ticks}
use Rattle.nets.specs.declared.Net.{Net}
use Rattle.nets.specs.declared.sound.SoundNet.{SoundNet}
use Rattle.nets.specs.declared.timed.TimedNet.{TimedNet}
use Rattle.nets.specs.declared.circuit.Circuit.{Circuit}
use Rattle.nets.specs.declared.Step as program
use Rattle.nets.specs.declared.CircuitStep.{CircuitStep}
use Rattle.nets.specs.Views.{of_net, of_step, step_of, no_step}

-- A start, of a length in ticks that is not below 0.
abbrev pub start_of : Ticks → ℕ
start_of t = unsigned_abs t.ticks

-- The timetable is of this net; past the last station its starts are zeros, and no start is above 10^16 ticks. That they are least, its type says.
pub record Timed (net : SoundNet) (t : TimedNet) : Type 0 where
  pub its_net : t.net ≡ net
  pub rest : (y : ℕ) → net.net.stations ≤ y → slice_index t.starts y ≡ 0
  pub starts_sized : (y : ℕ) → slice_index t.starts y < 10_000_000_000_000_000

-- x is none above any of the numbers.
abbrev pub Lowest : ℕ → List ℕ → Type 0
Lowest x ys = (t : ℕ) → t < length ys → x ≤ slice_index ys t

-- The steps are a circuit of the net, from its lowest station, with their lengths; these are above 0 together, so there is no timetable.
pub record Told (N : rules.Net) (cs : List CircuitStep) : Type 0 where
  pub circuit : Closed N (map step_of cs)
  pub lengths : map (λ s. s.length) cs ≡ map (ticks N) (map step_of cs)
  pub above : pos 0 <ℤ ticks_of N (map step_of cs)
  pub lowest : Lowest circuit.closed.0 (map (leads_from N) (map step_of cs))
  pub none : NoTimetable N

-- A step of a circuit that is told.
abbrev pub told_step : rules.Net → program.Step → CircuitStep
told_step N s = record { step = s; length = ticks N (of_step s) }

-- A circuit of the net is told; no length is above 10^16 ticks in size.
pub record Refused (N : Net) (c : Circuit) : Type 0 where
  pub few : length c.steps ≤ 64
  pub told : Told (of_net N) c.steps
  pub lengths_sized : (t : ℕ) → unsigned_abs (slice_index_or c.steps t no_step).length ≤ 10_000_000_000_000_000
