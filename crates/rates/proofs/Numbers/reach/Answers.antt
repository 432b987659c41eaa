use Rattle.std.proofs.Common.{◌*◌, arith}
use Rattle.rates.proofs.Links.{gcd_pos_right}
use Rattle.rates.proofs.Numbers.reach.Goals as goal

pub nonzero_div-parts : goal.nonzero_div-parts
nonzero_div-parts c = omega (arith, c.common_divisor-g.ensures, gcd_pos_right (c.from.result * c.from-2.result) c.from-produced.result (omega arith))

pub nonzero_div-produced : goal.nonzero_div-produced
nonzero_div-produced c = omega (arith, c.common_divisor-g.ensures, gcd_pos_right (c.from.result * c.from-2.result) c.from-produced.result (omega arith))
