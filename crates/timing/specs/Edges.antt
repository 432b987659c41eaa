-- A net's steps as edges of the search. Assumes nothing.
use Rattle.std.specs.Prelude.{ℕ, Bool, List, map, Ok, Err, Result, ◌*◌, ◌/◌, ◌<◌, ◌≤◌, ℤ, pos, ◌-ℤ◌, neg_ℤ, slice_index}
use Rattle.handover.specs.Gcd.{gcd}
use Rattle.rules.specs.Net as rules
use Rattle.rules.specs.Steps.{Step, leads_from, leads_to, shares, time, ticks}
use Rattle.lengths.specs.declared.Ticks.{Ticks}
use Rattle.lengths.specs.Models.{of_ticks}
use Rattle.search.specs.declared.Edge.{Edge}
use Rattle.search.specs.Terms.{LeastStarts, EdgeCircuit}
use Rattle.search.specs.Answer.{NeutralPast}
use Rattle.timing.specs.Listing.{steps_of}
use Rattle.nets.specs.declared.Link.{Link}
use Rattle.nets.specs.declared.Net.{Net}
use Rattle.nets.specs.Views.{of_net}

-- A link is open under k.
abbrev pub Opens : rules.Net → ℕ → Type 0
Opens N k = (l : rules.Link) × rules.Open N k l

-- A step as an edge, with its length of some kind.
abbrev pub edge_of : {L : Type 0} → rules.Net → (Step → L) → Step → Edge L
edge_of N w s = record { from = leads_from N s; to = leads_to N s; length = w s }

-- All steps of the net as edges: edge e is step e.
abbrev pub edges_of : {L : Type 0} → rules.Net → (Step → L) → List (Edge L)
edges_of N w = map (edge_of N w) (steps_of N)

-- What a search over the steps finds, for lengths of a kind: the least starts, neutral past the last station; or a circuit above neutral.
abbrev pub Found : {L : Type 0} → L → (L → L → L) → (L → L → Bool) → Net → (Step → L) → Result (List L) (List ℕ) → Type 0
Found neutral joined below N w (Ok starts) = LeastStarts neutral joined below N.stations (edges_of (of_net N) w) starts × NeutralPast neutral N.stations starts
Found neutral joined below N w (Err circuit) = EdgeCircuit neutral joined below (edges_of (of_net N) w) circuit

-- The two kinds: its pair, shares and time; and its length in ticks.
abbrev pub pair : rules.Net → Step → ℤ × ℤ
pair N s = (shares N s, pos (time N s))

abbrev pub in_ticks : rules.Net → Step → Ticks
in_ticks N s = of_ticks (ticks N s)

abbrev pub edge_in_pairs : rules.Net → Step → Edge (ℤ × ℤ)
edge_in_pairs N s = edge_of N (pair N) s

abbrev pub edge_in_ticks : rules.Net → Step → Edge Ticks
edge_in_ticks N s = edge_of N (in_ticks N) s

-- The edge from x to y with its pair, by what its parts are worth and by its grain; the rate and the duration as the tables have them.
abbrev pub between : Net → ℕ → ℕ → ℕ → ℕ → Edge (ℤ × ℤ)
between N x y value grain = record { from = x; to = y; length = (pos (slice_index N.rates y) -ℤ pos value -ℤ pos grain, pos (slice_index N.durations x)) }

-- The edge of a station's own step, from it to itself, as the tables have it.
abbrev pub loop_at : Net → ℕ → Edge (ℤ × ℤ)
loop_at N i = record { from = i; to = i; length = (neg_ℤ (pos (slice_index N.rates i)), pos (slice_index N.durations i)) }

-- The unit and the grain of a link, as the tables have them.
abbrev pub unit_of : Link → ℕ
unit_of l = gcd l.terms.produced l.terms.consumed

abbrev pub grain_of : Net → Link → ℕ
grain_of N l = gcd (slice_index N.rates l.ends.from) (slice_index N.rates l.ends.to)

-- A station's place in the tables, with its rate and its duration in range.
pub record Placed (N : Net) (x : ℕ) : Type 0 where
  pub inside : x < 64
  pub rate : slice_index N.rates x ≤ 10_000
  pub lasts : slice_index N.durations x ≤ 10_000

-- What the program knows of a link of the net and of a number of parts on it.
pub record Known (N : Net) (l : Link) (parts : ℕ) : Type 0 where
  pub from : Placed N l.ends.from
  pub to : Placed N l.ends.to
  pub some : 1 ≤ unit_of l
  pub grain : grain_of N l ≤ 10_000
  pub value : parts / unit_of l * grain_of N l ≤ 100_000_000
