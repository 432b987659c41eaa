use Rattle.lengths.specs.Laws.{comes_before}
use Rattle.search.specs.Levels.{Level}
use Rattle.search.proofs.Graph.next_level.Given as goal

abbrev pub invariant-loop-i : goal.invariant-loop-i
invariant-loop-i g l = Level g.L.Joining.neutral g.L.Joining.joined (comes_before g.L.Ord.cmp) l.self.edges.now l.i l.before l.best l.via l.raised
