use Rattle.std.proofs.Common.{sym, subst}
use Rattle.search.specs.Terms.{Searchable}
use Rattle.nets.specs.Views.{of_net}
use Rattle.nets.proofs.Alone.{good}
use Rattle.timing.specs.Edges.{edges_of}
use Rattle.timing.proofs.Opened.{stations_are}
use Rattle.timing.proofs.Bridge.{searched}
use Rattle.timing.proofs.list.Steps.search.Goals as goal

pub unreachable-requires : goal.unreachable-requires
unreachable-requires g c =
    let net = c.args.self.now.net.now in
    let N = of_net net.net in
    let G = good _ net.good in
    let w = g.L.StepLength.measured N in
    let J = g.L.Joining in
    let s = searched N w J.neutral J.size J.LARGEST G.sound G.range.few (λ z h. g.met.L.StepLength.roomy N G.sound G.range z h) in
    let k = subst (λ n. Searchable J.neutral J.size J.LARGEST n (edges_of N w)) (stations_are net.net G) s in
    let r = subst (Searchable J.neutral J.size J.LARGEST net.net.stations) (sym c.put_edges.ensures) k in
    let a = rw c.in-Unsearchable.is at c.in-Err.ensures.asked in
    a r
