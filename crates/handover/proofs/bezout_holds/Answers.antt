use Rattle.handover.proofs.Bezout.{bezout}
use Rattle.handover.proofs.bezout_holds.Goals as goal

pub returns : goal.returns
returns c = bezout
