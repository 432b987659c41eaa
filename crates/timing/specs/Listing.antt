-- The steps of a net, in their order. Assumes nothing.
use Rattle.std.specs.Prelude.{ℕ, zero, suc, List, [], ◌∷◌, ◌++◌, length, Some, None, Option, slice_index_or}
use Rattle.rules.specs.Net.{Link, Net, stations}
use Rattle.rules.specs.Steps.{Step, forward, back, own}

-- A link's step forward, and its step back where it has a capacity.
abbrev pub room_steps : ℕ → Option ℕ → List Step
room_steps k None = []
room_steps k (Some c) = back k ∷ []

abbrev pub link_steps : ℕ → Option Link → List Step
link_steps k None = []
link_steps k (Some l) = forward k ∷ room_steps k l.c

-- The steps of the first k links, and the own steps of the first i stations.
abbrev pub links_to : Net → ℕ → List Step
links_to N zero = []
links_to N (suc k) = links_to N k ++ link_steps k (slice_index_or N.links k None)

abbrev pub owns_to : ℕ → List Step
owns_to zero = []
owns_to (suc i) = owns_to i ++ (own i ∷ [])

-- All of them: the links' in the order of their numbers, and then the stations'.
abbrev pub steps_of : Net → List Step
steps_of N = links_to N (length N.links) ++ owns_to (stations N)
