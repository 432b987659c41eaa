use Rattle.nets.proofs.Alone.{good}
use Rattle.timing.proofs.Paced.{good_at}
use Rattle.timing.proofs.repaced.Goals as goal

pub invariant_of-result : goal.invariant_of-result
invariant_of-result c = record { good = ∣ good_at c.args.net.now.net (good _ c.args.net.now.good) c.args.pace c.requires ∣₁ }
