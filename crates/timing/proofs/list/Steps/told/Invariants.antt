use Rattle.std.proofs.Common.{◌≡◌, map, get_or, take}
use Rattle.nets.specs.declared.Step.TheVariants.{Forward}
use Rattle.nets.specs.Views.{of_net}
use Rattle.timing.specs.Timing.{told_step}
use Rattle.timing.proofs.list.Steps.told.Given as goal

abbrev pub invariant-loop-e : goal.invariant-loop-e
invariant-loop-e l = l.told.items ≡ map (λ e. told_step (of_net l.self.net.now.net) (get_or l.self.list.items e (Forward 0))) (take l.e-index l.circuit)
