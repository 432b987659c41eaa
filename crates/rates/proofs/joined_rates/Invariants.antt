use Rattle.nets.specs.Views.{of_net}
use Rattle.rates.specs.Reaching.{missing, Part}
use Rattle.rates.proofs.joined_rates.Given as goal

abbrev pub invariant-loop-lead : goal.invariant-loop-lead
invariant-loop-lead l = Part (of_net l.checked.net) l.numbers.z

abbrev pub decreases-loop-lead : goal.decreases-loop-lead
decreases-loop-lead l = missing l.numbers.z
