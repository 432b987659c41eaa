use Rattle.std.proofs.Common.{arith}
use Rattle.std.proofs.lemmas.List.{length-take}
use Rattle.nets.proofs.Alone.{good}
use Rattle.boards.proofs.board.Board.report.Goals as goal

pub shared_ref_as_front-periods : goal.shared_ref_as_front-periods
shared_ref_as_front-periods c = (good c.args.self.now.timed.net.net c.args.self.now.timed.net.good).whole.few

pub periods-periods-requires : goal.periods-periods-requires
periods-periods-requires c =
    let few = (good c.args.self.now.timed.net.net c.args.self.now.timed.net.good).whole.few in
    omega (arith, few, length-take c.args.self.now.timed.net.net.stations c.args.self.now.timed.net.net.rates)
