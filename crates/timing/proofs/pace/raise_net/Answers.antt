use Rattle.std.proofs.Common.{ℤ, nat_abs, sym, ap, ◌∙◌, subst, arith}
use Rattle.nets.specs.Views.{of_net}
use Rattle.nets.proofs.Alone.{good}
use Rattle.timing.specs.Pacing.{named_by, Raises}
use Rattle.timing.proofs.Raising.{time_small, raises, enough}
use Rattle.timing.proofs.pace.raise_net.Goals as goal

pub raised_by-requires : goal.raised_by-requires
raised_by-requires c =
    let net = c.args.net.now in
    let s = time_small net.net (good _ net.good) c.in-Err.circuit c.in-Err.ensures in
    record { small = omega (arith, ap (λ (z : ℤ × ℤ). nat_abs z.1) c.circuit_pair.ensures) }

pub returns-in-Ok : goal.returns-in-Ok
returns-in-Ok c = enough c.args.net.now _ c.in-Ok.ensures

pub returns-in-Err : goal.returns-in-Err
returns-in-Err c =
    let net = c.args.net.now in
    subst (Raises (of_net net.net) net.net.pace) (sym (c.raised_by.ensures ∙ ap named_by c.circuit_pair.ensures))
    (raises net.net (good _ net.good) c.in-Err.circuit c.in-Err.ensures)
