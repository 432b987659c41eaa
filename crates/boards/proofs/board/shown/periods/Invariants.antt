use Rattle.std.proofs.Common.{◌≡◌, ◌*◌, map, take}
use Rattle.boards.proofs.board.shown.periods.Given as goal

abbrev pub invariant-loop-rate : goal.invariant-loop-rate
invariant-loop-rate l = l.periods.items ≡ map (λ z. l.share * z) (take l.rate-index l.rates)
