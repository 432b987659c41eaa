-- The theorems on joined nets and rates, and worked examples of the definitions. Assumes nothing.
use Rattle.std.specs.Prelude.{◌≡◌, ℕ, List, [], ◌∷◌, map, replicate, Some, None}
use Rattle.rules.specs.Net.{Link, Net}
use Rattle.rules.specs.Ranges.{Checked}
use Rattle.rules.specs.Examples as examples
use Rattle.rules.specs.Rates.{Joined, CutOff, Rated, with_rates, NoRates}

-- A joined net has at most one list of rates.
abbrev pub RatesOne : Type 0
RatesOne = (N : Net) → Checked N → Joined N → (Z Z' : List ℕ) → Rated (with_rates N Z) → Rated (with_rates N Z') → Z ≡ Z'

-- At most one station is the lowest that is cut off, and none of a joined net is.
pub record CutOffOne : Type 0 where
  pub one : (N : Net) (x y : ℕ) → CutOff N x → CutOff N y → x ≡ y
  pub apart : (N : Net) (y : ℕ) → CutOff N y → Joined N → ⊥

-- An empty link from i to j with room for any number of parts, on which w arrive and v leave; and a net of n stations of duration 1 at pace 1.
abbrev pub tie : ℕ → ℕ → ℕ → ℕ → Link
tie i j w v = record { i = i; j = j; w = w; v = v; u = 0; c = None }

abbrev pub net : ℕ → List Link → Net
net n ls = record { durations = replicate n 1; rates = []; A = 1; B = 1; links = map Some ls }

-- Two stations, and a link on which 4 parts arrive and 6 leave.
abbrev pub two : List Link
two = tie 0 1 4 6 ∷ []

-- Three stations in a row: the second fires once for 1,000 firings of the first, and the third once for x of the second.
abbrev pub row : ℕ → List Link
row x = tie 0 1 1 1_000 ∷ tie 1 2 1 x ∷ []

-- Two stations, each of which would fire half as often as the other.
abbrev pub ring : List Link
ring = tie 0 1 1 2 ∷ tie 1 0 1 2 ∷ []

-- An assembly line of five stations.
abbrev pub assembly : List Link
assembly = tie 0 2 1 2 ∷ tie 1 2 1 3 ∷ tie 3 0 2 1 ∷ tie 2 3 1 1 ∷ tie 3 1 3 1 ∷ tie 3 4 1 3 ∷ tie 4 0 6 1 ∷ tie 4 1 9 1 ∷ []

-- The worked cases, together: starts, periods, stock and taken space, circuits with their lengths, fastest paces, and rates.
pub record Worked : Type 0 where
  pub timetables : examples.Worked
  pub two_rates : Rated (with_rates (net 2 two) (2 ∷ 3 ∷ []))
  pub row_rates : Rated (with_rates (net 3 (row 10)) (1 ∷ 1_000 ∷ 10_000 ∷ []))
  pub row_none : NoRates (net 3 (row 11))
  pub ring_none : NoRates (net 2 ring)
  pub assembly_joined : Joined (net 5 assembly)
  pub assembly_rates : Rated (with_rates (net 5 assembly) (3 ∷ 2 ∷ 6 ∷ 6 ∷ 18 ∷ []))
  pub two_cut : CutOff (net 2 []) 1
