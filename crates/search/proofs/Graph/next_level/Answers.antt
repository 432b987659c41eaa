use Rattle.std.proofs.Common.{sym, ◌∙◌, arith, rules}
use Rattle.std.proofs.lemmas.List.{get_or_default, set-get_or}
use Rattle.search.proofs.EdgeReads.{begins_is, lasts_is, from_in, to_in}
use Rattle.search.proofs.Stepping.{level_none, turn_keep, turn_raise}
use Rattle.search.proofs.Histories.{wider}
use Rattle.search.proofs.Graph.next_level.Goals as goal
use Rattle.search.proofs.Graph.next_level.Goals.{then-raise, else-raise}

pub loop-i-init : goal.loop-i-init
loop-i-init g c = level_none g.L.Joining.neutral g.met.L.OrderedLength.orders _ _ c.told-before

pub offset_bounds-before-edge : goal.offset_bounds-before-edge
offset_bounds-before-edge g c =
    let h = from_in _ _ _ c.loop-i-test.true c.edge-item.is c.args.self.now.searchable in search rules

pub listed : goal.listed
listed g c =
    omega (arith, from_in _ _ _ c.loop-i-test.true c.edge-item.is c.args.self.now.searchable)

pub bounds-before-edge : goal.bounds-before-edge
bounds-before-edge g c = from_in _ _ _ c.loop-i-test.true c.edge-item.is c.args.self.now.searchable

pub join-reached-requires : goal.join-reached-requires
join-reached-requires g c =
    let m = g.L.Joining in
    let lt = c.loop-i-test.true in
    let is = c.edge-item.is in
    let read = get_or_default c.args.before.now c.edge-item.result.from c.index-before-edge.result m.neutral (omega (arith, from_in _ _ _ lt is c.args.self.now.searchable)) in
    rw read (rw (begins_is _ _ _ lt is, lasts_is _ _ _ lt is m.neutral) at (c.requires c.loop-i.i lt))

pub offset_bounds-best-edge : goal.offset_bounds-best-edge
offset_bounds-best-edge g c =
    let h = to_in _ _ _ c.loop-i-test.true c.edge-item.is c.args.self.now.searchable in search rules

pub listed-in-loop-i : goal.listed-in-loop-i
listed-in-loop-i g c =
    omega (arith, to_in _ _ _ c.loop-i-test.true c.edge-item.is c.args.self.now.searchable, c.loop-i.invariant.many)

pub bounds-best-edge : goal.bounds-best-edge
bounds-best-edge g c = to_in _ _ _ c.loop-i-test.true c.edge-item.is c.args.self.now.searchable

pub offset_bounds-via-edge : goal.offset_bounds-via-edge
offset_bounds-via-edge g c =
    let h = to_in _ _ _ c.loop-i-test.true c.edge-item.is c.args.self.now.searchable in search rules

pub bounds-via-edge : goal.bounds-via-edge
bounds-via-edge g c = to_in _ _ _ c.loop-i-test.true c.edge-item.is c.args.self.now.searchable

pub loop-i-preserved : goal.loop-i-preserved
loop-i-preserved g c =
    let s = c.args.self.now.searchable in
    let inside = wider c.args.self.now.edges.now c.args.self.now.nodes 64 s.few s.inside in
    elim c.if-raise.branch [
      | then-raise w ↦
          rw (w.via-is, w.raised-is, rw w.if-raise.true at c.raise.ensures.raised)
          (turn_raise g.met.L.OrderedLength.orders inside c.loop-i.invariant c.loop-i-test.true _ c.edge-item.is c.told-before _ _ c.index-best-edge.result c.join-reached.ensures (sym c.raise.ensures.greater ∙ w.if-raise.true))
      | else-raise w ↦
          rw (w.via-is, w.raised-is, rw w.if-raise.false at c.raise.ensures.raised, set-get_or c.loop-i.best c.edge-item.result.to c.index-best-edge.result)
          (turn_keep g.met.L.OrderedLength.orders inside c.loop-i.invariant c.loop-i-test.true _ c.edge-item.is c.told-before _ _ c.index-best-edge.result c.join-reached.ensures (sym c.raise.ensures.greater ∙ w.if-raise.false))
    ]
