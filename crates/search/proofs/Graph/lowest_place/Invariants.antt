use Rattle.std.proofs.Common.{ℕ, ◌<◌, ◌≤◌, length, get_or}
use Rattle.search.specs.Terms.{begins}
use Rattle.search.proofs.Graph.lowest_place.Given as goal

abbrev pub invariant-loop-t : goal.invariant-loop-t
invariant-loop-t g l = (l.place < length l.chain) × ((t : ℕ) → t < l.t → begins l.self.edges.now (get_or l.chain l.place 0) ≤ begins l.self.edges.now (get_or l.chain t 0))
