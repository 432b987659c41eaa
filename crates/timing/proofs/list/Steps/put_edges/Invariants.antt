use Rattle.std.proofs.Common.{◌≡◌, ◌++◌, take, drop}
use Rattle.nets.specs.Views.{of_net}
use Rattle.timing.specs.Edges.{edges_of}
use Rattle.timing.proofs.list.Steps.put_edges.Given as goal

abbrev pub invariant-loop-e : goal.invariant-loop-e
invariant-loop-e g l =
    let N = of_net l.self.net.now.net in
    l.edges ≡ take l.e (edges_of N (g.L.StepLength.measured N)) ++ drop l.e l.initial.edges
