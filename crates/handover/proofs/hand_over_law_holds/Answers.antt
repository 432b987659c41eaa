use Rattle.handover.proofs.HandOver.{hand_over}
use Rattle.handover.proofs.hand_over_law_holds.Goals as goal

pub returns : goal.returns
returns c = hand_over
