use Rattle.handover.proofs.Timetable.{whole_ticks}
use Rattle.handover.proofs.whole_ticks_hold.Goals as goal

pub returns : goal.returns
returns c = whole_ticks
