use Rattle.std.proofs.Common.{◌≡◌, map, take}
use Rattle.nets.specs.Views.{of_net, step_of}
use Rattle.timing.specs.Pacing.{pair_of}
use Rattle.timing.proofs.pace.circuit_pair.Given as goal

abbrev pub invariant-loop-told : goal.invariant-loop-told
invariant-loop-told l = l.sum ≡ pair_of (of_net l.net.net) (map step_of (take l.told-index l.circuit.steps))
