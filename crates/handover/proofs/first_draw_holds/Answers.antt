use Rattle.handover.proofs.Timetable.{first_draw}
use Rattle.handover.proofs.first_draw_holds.Goals as goal

pub returns : goal.returns
returns c = first_draw
