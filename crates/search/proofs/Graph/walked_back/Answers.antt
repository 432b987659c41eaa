use Rattle.std.proofs.Common.{[], sym, ap, ◌∙◌, add-one, arith, rules}
use Rattle.std.proofs.Math.Seq.{take-length}
use Rattle.search.specs.Terms.{ends}
use Rattle.search.proofs.Walking.{last_row, absent_from, chain_in, walk_none, walk_ends, walk_closes, walk_marked, walk_room, walk_known, walk_next}
use Rattle.search.proofs.Graph.walked_back.Goals as goal

pub loop-via-init : goal.loop-via-init
loop-via-init g c =
    let rest = ap (λ r. r.iter.rest.now) c.into_iter-via-iterator.ensures.into_iter_gives ∙ ap (λ i. i.rest.now) c.rev-via-items.ensures.source ∙ c.iter.ensures.rest in
    record {
      can = tt;
      finite = tt;
      rows = rw rest (sym (take-length _));
      walk = rw (rest, c.requires.all, c.new-chain.ensures) (walk_none c.args.self.now.edges.now c.args.vias.now c.args.self.now.nodes c.args.last c.requires.levels.0 c.requires.levels.1 c.requires.raised c.requires.node);
      once = rw c.new-chain.ensures tt;
    }

pub offset_bounds-via-node : goal.offset_bounds-via-node
offset_bounds-via-node g c =
    let n = c.loop-via.invariant.walk.node in let f = c.args.self.now.searchable.few in search rules

pub bounds-via-node : goal.bounds-via-node
bounds-via-node g c =
    omega (arith, c.loop-via.invariant.walk.node, c.args.self.now.searchable.few)

pub unreachable-requires : goal.unreachable-requires
unreachable-requires g c =
    walk_marked g.met.L.Joining.joins g.met.L.OrderedLength.orders c.args.self.now.edges.now c.args.self.now.searchable _ _ c.in-Some.ensures.steps c.loop-via.invariant.rows c.loop-via.invariant.walk c.in_default.is

pub insert-requires : goal.insert-requires
insert-requires g c =
    let room = walk_room g.met.L.Joining.joins g.met.L.OrderedLength.orders c.args.self.now.edges.now c.args.self.now.searchable _ _ c.in-Some.ensures.steps c.loop-via.invariant.rows c.loop-via.invariant.walk in
    search rules

pub begin_of-node-requires : goal.begin_of-node-requires
begin_of-node-requires g c =
    walk_known g.met.L.Joining.joins g.met.L.OrderedLength.orders c.args.self.now.edges.now c.args.self.now.searchable _ _ c.in-Some.ensures.steps c.loop-via.invariant.rows c.loop-via.invariant.walk c.in-Some-via.is

pub place_of_end-requires : goal.place_of_end-requires
place_of_end-requires g c =
    let walk = walk_next g.met.L.Joining.joins g.met.L.OrderedLength.orders c.args.self.now.edges.now c.args.self.now.searchable _ _ c.in-Some.ensures.steps c.loop-via.invariant.rows c.loop-via.invariant.walk c.in-Some-via.is c.loop-via.invariant.once c.begin_of-node.ensures c.insert.ensures.items in
    rw c.deref.ensures.0 (chain_in c.args.self.now.edges.now _ _ walk.last walk.chain)

pub circuit_to-requires : goal.circuit_to-requires
circuit_to-requires g c =
    let walk = walk_next g.met.L.Joining.joins g.met.L.OrderedLength.orders c.args.self.now.edges.now c.args.self.now.searchable _ _ c.in-Some.ensures.steps c.loop-via.invariant.rows c.loop-via.invariant.walk c.in-Some-via.is c.loop-via.invariant.once c.begin_of-node.ensures c.insert.ensures.items in
    let found = rw c.deref.ensures.0 at c.in-Some-place_of_end.ensures in
    record {
      inside = found.0;
      rising = rw add-one (walk_closes g.met.L.Joining.joins g.met.L.OrderedLength.orders c.args.self.now.edges.now c.args.vias.now c.args.self.now.nodes _ _ _ c.in-Some-place_of_end.place walk found.0 found.1);
    }

pub loop-via-preserved : goal.loop-via-preserved
loop-via-preserved g c =
    let walk = walk_next g.met.L.Joining.joins g.met.L.OrderedLength.orders c.args.self.now.edges.now c.args.self.now.searchable _ _ c.in-Some.ensures.steps c.loop-via.invariant.rows c.loop-via.invariant.walk c.in-Some-via.is c.loop-via.invariant.once c.begin_of-node.ensures c.insert.ensures.items in
    let none = rw c.deref.ensures.0 at c.in_default-place_of_end.ensures in
    record {
      can = tt;
      finite = tt;
      rows = (last_row _ _ c.args.vias.now _ [] c.in-Some.ensures.steps c.loop-via.invariant.rows).0;
      walk = walk;
      once = absent_from (ends c.args.self.now.edges.now) _ _ (λ m h e. none m 0 h e);
    }

pub unreachable-requires-2 : goal.unreachable-requires-2
unreachable-requires-2 g c =
    walk_ends c.args.self.now.edges.now c.args.vias.now c.args.self.now.nodes c.args.self.now.searchable.inside c.loop-via.node _ (rw c.in-None.ensures.steps.0 at c.loop-via.invariant.walk) c.loop-via.invariant.once
