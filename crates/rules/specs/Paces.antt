-- The fastest pace. Assumes nothing.
use Rattle.std.specs.Prelude.{◌≡◌, ℕ, ◌*◌, ◌≤◌, ◌⊎◌, List, pos, neg_ℤ}
use Rattle.handover.specs.Gcd.{Coprime}
use Rattle.rules.specs.Net.{Net, Sound, stations, at_pace_lem}
use Rattle.rules.specs.Rules.{HasTimetable}
use Rattle.rules.specs.Steps.{Step, Circuit, PairCircuit, shares_of, time_of}

-- A / B is the smallest pace with a timetable, reduced.
pub record Fastest (N : Net) (A B : ℕ) : Type 0 where
  pub share : 1 ≤ A
  pub unit : 1 ≤ B
  pub reduced : Coprime A B
  pub has : HasTimetable (at_pace_lem N A B)
  pub smallest : (A' B' : ℕ) → 1 ≤ A' → 1 ≤ B' → HasTimetable (at_pace_lem N A' B') → A * B' ≤ A' * B

-- The circuit c names the pace A / B: it is its time over minus its shares.
pub record Names (N : Net) (c : List Step) (A B : ℕ) : Type 0 where
  pub circuit : Circuit N c
  pub less : ℕ
  pub some : 1 ≤ less
  pub shares : shares_of N c ≡ neg_ℤ (pos less)
  pub even : A * less ≡ B * time_of N c

-- Only the fraction counts: where A / B has a timetable, every fraction that is no smaller has one.
abbrev pub SlowerToo : Type 0
SlowerToo =
    (N : Net) → Sound N → (A B A' B' : ℕ) → 1 ≤ A → 1 ≤ B → 1 ≤ A' → 1 ≤ B' → A * B' ≤ A' * B →
    HasTimetable (at_pace_lem N A B) → HasTimetable (at_pace_lem N A' B')

-- A pace with a timetable that a circuit names is the fastest.
abbrev pub FastestWhen : Type 0
FastestWhen =
    (N : Net) → Sound N → (A B : ℕ) → 1 ≤ A → 1 ≤ B → Coprime A B → HasTimetable (at_pace_lem N A B) → (c : List Step) → Names N c A B → Fastest N A B

-- There is a fastest pace or a circuit whose pair is above (0, 0).
abbrev pub FastestOrPair : Type 0
FastestOrPair = (N : Net) → Sound N → 1 ≤ stations N → ((A : ℕ) × (B : ℕ) × Fastest N A B) ⊎ PairCircuit N

-- Some circuit names the fastest pace.
abbrev pub FastestNamed : Type 0
FastestNamed = (N : Net) → Sound N → 1 ≤ stations N → (A B : ℕ) → Fastest N A B → (c : List Step) × Names N c A B

-- There is only one.
abbrev pub FastestOne : Type 0
FastestOne = (N : Net) (A B A' B' : ℕ) → Fastest N A B → Fastest N A' B' → (A ≡ A') × (B ≡ B')
