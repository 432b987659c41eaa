use Rattle.std.proofs.Common.{◌≡◌, ◌<◌, MatchOption}
use Rattle.lengths.specs.Laws.{comes_before}
use Rattle.search.specs.Levels.{History, Marked}
use Rattle.search.proofs.Graph.search.Given as goal

abbrev pub invariant-loop-via : goal.invariant-loop-via
invariant-loop-via g l = record {
  levels : History g.L.Joining.neutral g.L.Joining.joined (comes_before g.L.Ord.cmp) l.self.edges.now l.vias l.via-index l.starts;
  last : MatchOption l.last (l.via-index ≡ 0) (λ y. (y < l.self.nodes) × Marked l.vias l.via-index y);
}
