use Rattle.handover.proofs.Count.{counts}
use Rattle.handover.proofs.counts_holds.Goals as goal

pub returns : goal.returns
returns c = counts
