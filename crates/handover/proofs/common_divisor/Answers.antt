use Rattle.std.proofs.Common.{sym, ◌∙◌, arith}
use Rattle.handover.proofs.Gcd.{gcd_step}
use Rattle.handover.proofs.common_divisor.Goals as goal

pub loop-y-preserved : goal.loop-y-preserved
loop-y-preserved c = sym (gcd_step c.loop-y.x c.loop-y.y (omega arith)) ∙ c.loop-y.invariant
