use Rattle.std.proofs.Common.{◌≡◌, map, length, take}
use Rattle.lengths.specs.Laws.{comes_before}
use Rattle.search.specs.Terms.{ends}
use Rattle.handover.specs.Once.{Absent}
use Rattle.search.proofs.Walking.{Walk}
use Rattle.search.proofs.Graph.walked_back.Given as goal

abbrev pub invariant-loop-via : goal.invariant-loop-via
invariant-loop-via g l = record {
  can : (goal.iterator-loop-via g).can_next l.via-iterator;
  finite : (goal.iterator-loop-via g).is_finite l.via-iterator;
  rows : l.via-iterator.iter.rest.now ≡ take (length l.via-iterator.iter.rest.now) l.vias;
  walk : Walk g.L.Joining.neutral g.L.Joining.joined (comes_before g.L.Ord.cmp) l.self.edges.now l.vias l.self.nodes (length l.via-iterator.iter.rest.now) l.node l.chain.items;
  once : Absent l.node (map (ends l.self.edges.now) l.chain.items);
}
