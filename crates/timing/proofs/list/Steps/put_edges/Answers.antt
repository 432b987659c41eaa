use Rattle.std.proofs.Common.{length, ap, ◌∙◌, arith}
use Rattle.nets.specs.Views.{of_net}
use Rattle.timing.specs.Edges.{edges_of}
use Rattle.timing.proofs.Fronts.{front_more, front_all}
use Rattle.timing.proofs.Bridge.{held, listed, as_many, edge_read, many}
use Rattle.timing.proofs.list.Steps.put_edges.Goals as goal

pub invariant_of-edge : goal.invariant_of-edge
invariant_of-edge g c =
    let self = c.args.self.now in
    record { has = held (of_net self.net.now.net) self.list.items c.deref-step-items.result.now self.all c.deref-step-items.ensures.0 c.loop-e.e c.loop-e-test.true }

pub loop-e-preserved : goal.loop-e-preserved
loop-e-preserved g c =
    let self = c.args.self.now in
    let N = of_net self.net.now.net in
    let w = g.L.StepLength.measured N in
    let items = c.deref-step-items.result.now in
    let q = listed N self.list.items items self.all c.deref-step-items.ensures.0 in
    front_more (edges_of N w) c.args.edges.now c.loop-e.edges c.loop-e.e c.loop-e.invariant c.edge.result c.edge.result
    (omega (arith, c.loop-e-test.true, many N w, as_many N items q)) (omega (arith, c.loop-e-test.true, c.requires.room, ap length c.deref-step-items.ensures.0))
    (c.edge.ensures ∙ edge_read N items q w c.loop-e.e c.edge.result c.loop-e-test.true)

pub returns : goal.returns
returns g c =
    let self = c.args.self.now in
    let N = of_net self.net.now.net in
    let w = g.L.StepLength.measured N in
    let items = c.deref-step-items.result.now in
    let q = listed N self.list.items items self.all c.deref-step-items.ensures.0 in
    front_all (edges_of N w) c.args.edges.now c.loop-e.edges c.loop-e.e c.loop-e.invariant
    (omega (arith, c.loop-e-test.false, many N w, as_many N items q)) (omega (arith, c.loop-e-test.false, c.requires.room, ap length c.deref-step-items.ensures.0))
