use Rattle.nets.specs.Views.{of_net}
use Rattle.rates.specs.Reaching.{missing, Led}
use Rattle.rates.proofs.cut_off.Given as goal

abbrev pub invariant-loop-lead : goal.invariant-loop-lead
invariant-loop-lead l = Led (of_net l.checked.net) l.numbers.z

abbrev pub decreases-loop-lead : goal.decreases-loop-lead
decreases-loop-lead l = missing l.numbers.z
