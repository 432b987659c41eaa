use Rattle.nets.specs.Views.{of_net}
use Rattle.timing.specs.Pacing.{Named}
use Rattle.timing.proofs.Paced.{below_slowest}
use Rattle.timing.proofs.pace.fastest_of.Given as goal

abbrev pub invariant-loop-slower : goal.invariant-loop-slower
invariant-loop-slower l = Named (of_net l.net.net) l.pace

abbrev pub decreases-loop-slower : goal.decreases-loop-slower
decreases-loop-slower l = below_slowest l.pace
