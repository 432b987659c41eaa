use Rattle.handover.proofs.Gcd.{gcd_is}
use Rattle.handover.proofs.gcd_is_holds.Goals as goal

pub returns : goal.returns
returns c = gcd_is
