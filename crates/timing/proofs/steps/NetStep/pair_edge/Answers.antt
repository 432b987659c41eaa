use Rattle.std.proofs.Common.{sym, ap, ◌∙◌}
use Rattle.nets.specs.declared.Step.TheVariants.{Forward, Back, Own}
use Rattle.nets.specs.Views.{of_net, of_step}
use Rattle.nets.proofs.Alone.{good}
use Rattle.timing.specs.Edges.{edge_in_pairs}
use Rattle.timing.proofs.Carried.{has}
use Rattle.timing.proofs.Opened.{known_forward, known_back, has_room, has_capacity, placed, forward_is, back_is, own_is}
use Rattle.timing.proofs.steps.NetStep.pair_edge.Goals as goal

pub open_link-requires : goal.open_link-requires
open_link-requires c = record { here = has (of_net c.args.self.now.net.now.net) c.args.self.now.step (Forward c.in-Forward.k) c.args.self.now.has c.in-Forward.is }

pub forward_edge-requires : goal.forward_edge-requires
forward_edge-requires c =
    let net = c.args.self.now.net.now in
    record { known = known_forward net.net c.in-Forward.k c.open_link.result (good _ net.good) c.open_link.ensures }

pub open_link-l-requires : goal.open_link-l-requires
open_link-l-requires c =
    let h = has (of_net c.args.self.now.net.now.net) c.args.self.now.step (Back c.in-Back.k) c.args.self.now.has c.in-Back.is in
    record { here = (h.0, h.2) }

pub unreachable-requires : goal.unreachable-requires
unreachable-requires c =
    let net = c.args.self.now.net.now.net in
    has_capacity net c.in-Back.k c.open_link-l.result c.open_link-l.ensures (has (of_net net) c.args.self.now.step (Back c.in-Back.k) c.args.self.now.has c.in-Back.is) c.in_default.is

pub back_edge-requires : goal.back_edge-requires
back_edge-requires c =
    let net = c.args.self.now.net.now in
    let l = c.open_link-l.result in
    record {
      room = has_room net.net c.in-Back.k l (good _ net.good) c.open_link-l.ensures c.in-Some.capacity c.in-Some.is;
      known = known_back net.net c.in-Back.k l (good _ net.good) c.open_link-l.ensures c.in-Some.capacity c.in-Some.is;
    }

pub own_edge-requires : goal.own_edge-requires
own_edge-requires c =
    let net = c.args.self.now.net.now in
    record { placed = placed net.net c.in-Own.i (good _ net.good) (has (of_net net.net) c.args.self.now.step (Own c.in-Own.i) c.args.self.now.has c.in-Own.is) }

pub returns-in-Forward : goal.returns-in-Forward
returns-in-Forward c =
    let net = c.args.self.now.net.now in
    c.forward_edge.ensures ∙ forward_is net.net c.in-Forward.k c.open_link.result (good _ net.good) c.open_link.ensures
    ∙ ap (λ z. edge_in_pairs (of_net net.net) (of_step z)) (sym c.in-Forward.is)

pub returns-in-Some : goal.returns-in-Some
returns-in-Some c =
    let net = c.args.self.now.net.now in
    c.back_edge.ensures ∙ back_is net.net c.in-Back.k c.open_link-l.result (good _ net.good) c.open_link-l.ensures c.in-Some.capacity c.in-Some.is
    ∙ ap (λ z. edge_in_pairs (of_net net.net) (of_step z)) (sym c.in-Back.is)

pub returns-in-Own : goal.returns-in-Own
returns-in-Own c =
    let net = c.args.self.now.net.now in
    c.own_edge.ensures ∙ own_is net.net c.in-Own.i (has (of_net net.net) c.args.self.now.step (Own c.in-Own.i) c.args.self.now.has c.in-Own.is)
    ∙ ap (λ z. edge_in_pairs (of_net net.net) (of_step z)) (sym c.in-Own.is)
