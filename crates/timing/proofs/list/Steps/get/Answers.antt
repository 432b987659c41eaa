use Rattle.std.proofs.Common.{◌<◌, length, ap, arith}
use Rattle.nets.specs.Views.{of_net}
use Rattle.timing.proofs.Bridge.{held}
use Rattle.timing.proofs.list.Steps.get.Goals as goal

pub invariant_of-result : goal.invariant_of-result
invariant_of-result c =
    let self = c.args.self.now in
    let q = c.deref.ensures.0 in
    let h : c.args.e < length c.deref.result.now = omega (arith, ap length q, c.requires) in
    record { has = held (of_net self.net.now.net) self.list.items c.deref.result.now self.all q c.args.e h }
