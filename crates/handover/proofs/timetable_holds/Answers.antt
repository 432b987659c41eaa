use Rattle.handover.proofs.Timetable.{timetable}
use Rattle.handover.proofs.timetable_holds.Goals as goal

pub returns : goal.returns
returns c = timetable
