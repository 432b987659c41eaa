-- What the search answers. Assumes nothing.
use Rattle.std.specs.Prelude.{◌≡◌, ℕ, ◌≤◌, Bool, List, slice_index_or, Result, Ok, Err}
use Rattle.search.specs.declared.Edge.{Edge}
use Rattle.search.specs.declared.SearchError.{SearchError}
use Rattle.search.specs.declared.SearchError.TheVariants.{Unsearchable, Above}
use Rattle.search.specs.Terms.{Searchable, LeastStarts, EdgeCircuit}

-- Edges that can be searched are searched, and no others.
abbrev pub Asked : {L : Type 0} → L → (L → ℕ) → ℕ → ℕ → List (Edge L) → Result (List L) SearchError → Type 0
Asked neutral size largest nodes es (Ok starts) = Searchable neutral size largest nodes es
Asked neutral size largest nodes es (Err (Above c)) = Searchable neutral size largest nodes es
Asked neutral size largest nodes es (Err Unsearchable) = Searchable neutral size largest nodes es → ⊥

-- The least starts, or a circuit above neutral.
abbrev pub Answered : {L : Type 0} → L → (L → L → L) → (L → L → Bool) → ℕ → List (Edge L) → Result (List L) SearchError → Type 0
Answered neutral joined below nodes es (Ok starts) = LeastStarts neutral joined below nodes es starts
Answered neutral joined below nodes es (Err (Above c)) = EdgeCircuit neutral joined below es c
Answered neutral joined below nodes es (Err Unsearchable) = Unit {0}

-- From the last node on every place is neutral.
abbrev pub NeutralPast : {L : Type 0} → L → ℕ → List L → Type 0
NeutralPast neutral nodes starts = (y : ℕ) → nodes ≤ y → slice_index_or starts y neutral ≡ neutral
