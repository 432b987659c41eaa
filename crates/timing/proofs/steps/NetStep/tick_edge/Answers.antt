use Rattle.std.proofs.Common.{refl, ◌∙◌, w64, SFits, rules}
use Rattle.std.proofs.lemmas.Int.{to_z-of_z}
use Rattle.nets.specs.Views.{of_net, of_step}
use Rattle.nets.proofs.Alone.{good}
use Rattle.timing.proofs.Carried.{has}
use Rattle.timing.proofs.Sizes.{from_small, time_small, shares_small, ticks_are, tick_edge_is}
use Rattle.timing.proofs.steps.NetStep.tick_edge.Goals as goal

pub bounds-net-edge : goal.bounds-net-edge
bounds-net-edge c =
    let self = c.args.self.now in
    let net = self.net.now in
    from_small net.net (good _ net.good) (of_step self.step) (has (of_net net.net) self.step self.step self.has refl) c.pair_edge-edge.result c.pair_edge-edge.ensures

pub offset_bounds-net-edge : goal.offset_bounds-net-edge
offset_bounds-net-edge c =
    let self = c.args.self.now in
    let net = self.net.now in
    let h = from_small net.net (good _ net.good) (of_step self.step) (has (of_net net.net) self.step self.step self.has refl) c.pair_edge-edge.result c.pair_edge-edge.ensures in
    search rules

pub pair_ticks-ticks-requires : goal.pair_ticks-ticks-requires
pair_ticks-ticks-requires c =
    let self = c.args.self.now in
    let net = self.net.now in
    let h = has (of_net net.net) self.step self.step self.has refl in
    record {
      small = (
        time_small net.net (good _ net.good) (of_step self.step) h c.pair_edge-edge.result c.pair_edge-edge.ensures,
        shares_small net.net (good _ net.good) (of_step self.step) h c.pair_edge-edge.result c.pair_edge-edge.ensures,
      );
    }

pub returns : goal.returns
returns c =
    let f : SFits w64 c.pair_ticks-ticks.result = search rules in
    let self = c.args.self.now in
    let net = self.net.now in
    let h = has (of_net net.net) self.step self.step self.has refl in
    tick_edge_is net.net (good _ net.good) (of_step self.step) h c.pair_edge-edge.result c.pair_edge-edge.ensures _
    (to_z-of_z w64 _ f ∙ c.pair_ticks-ticks.ensures ∙ ticks_are net.net (good _ net.good) (of_step self.step) h c.pair_edge-edge.result c.pair_edge-edge.ensures)
