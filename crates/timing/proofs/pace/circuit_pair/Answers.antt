use Rattle.std.proofs.Common.{◌∙◌}
use Rattle.nets.proofs.Alone.{good}
use Rattle.timing.proofs.Raising.{step_held, join_room, join_more}
use Rattle.timing.proofs.pace.circuit_pair.Goals as goal

pub invariant_of-step : goal.invariant_of-step
invariant_of-step c =
    let net = c.args.net.now in
    record { has = step_held net.net (good _ net.good) c.args.circuit.now c.requires.refused c.deref-told-items.result.now c.deref-told-items.ensures.0 c.loop-told.told-index c.loop-told-test.true }

pub join-sum-requires : goal.join-sum-requires
join-sum-requires c =
    let net = c.args.net.now in
    join_room net.net (good _ net.good) c.args.circuit.now c.requires.refused c.deref-told-items.result.now c.deref-told-items.ensures.0 c.loop-told.told-index c.loop-told-test.true c.loop-told.sum c.loop-told.invariant c.pair_edge.result c.pair_edge.ensures

pub loop-told-preserved : goal.loop-told-preserved
loop-told-preserved c =
    let net = c.args.net.now in
    c.join-sum.ensures ∙ join_more net.net (good _ net.good) c.args.circuit.now c.requires.refused c.deref-told-items.result.now c.deref-told-items.ensures.0 c.loop-told.told-index c.loop-told-test.true c.loop-told.sum c.loop-told.invariant c.pair_edge.result c.pair_edge.ensures
