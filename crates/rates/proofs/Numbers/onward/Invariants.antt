use Rattle.std.proofs.Common.{ℕ, ◌<◌, None}
use Rattle.rules.specs.Net.{Link, Open}
use Rattle.nets.specs.Views.{of_net}
use Rattle.rates.specs.Reaching.{OnwardBy}
use Rattle.rates.proofs.Numbers.onward.Given as goal

abbrev pub invariant-loop-slot : goal.invariant-loop-slot
invariant-loop-slot l = (k : ℕ) (t : Link) → k < l.slot-index → Open (of_net l.checked.net) k t → OnwardBy t l.self.z None
