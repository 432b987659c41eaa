use Rattle.std.proofs.Common.{◌≡◌, take, length, refl, sym, ap, ◌∙◌, subst, rules, arith}
use Rattle.rules.specs.Rules.{Least}
use Rattle.nets.specs.Views.{of_net}
use Rattle.nets.proofs.Alone.{least}
use Rattle.timing.specs.Timing.{Told}
use Rattle.boards.proofs.Writing.{written}
use Rattle.boards.proofs.board.Board.settle.Goals as goal

pub returns-in-Ok : goal.returns-in-Ok
returns-in-Ok c =
    let t = c.in-Ok.timed in
    let T = c.in-Ok.ensures in
    let starts = take t.net.net.stations t.starts in (
      ap (λ n. of_net n.net) T.its_net,
      subst (λ n. Least (of_net n.net) starts) T.its_net (least (of_net t.net.net) starts t.least),
      refl,
    )

pub returns-in-Err : goal.returns-in-Err
returns-in-Err c =
    let R = c.in-Err.ensures in
    let n = length c.as_slice-steps.result.now in
    let e : c.as_slice-steps.result.now ≡ c.in-Err.circuit.steps = search rules in
    let f : c.copy_from_slice.new.self ≡ c.in-Err.circuit.steps = search rules in (
      written (of_net c.args.net.net) n c.args.list.now c.copy_from_slice.new.self _ (omega (arith, R.few, ap length e)) (ap length f ∙ sym (ap length e)) refl
          (subst (Told (of_net c.args.net.net)) (sym f) R.told),
      refl,
    )
