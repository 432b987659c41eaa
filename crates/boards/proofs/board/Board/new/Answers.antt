use Rattle.std.proofs.Common.{take, replicate, sym, subst}
use Rattle.rules.specs.Rules.{Least}
use Rattle.nets.specs.Views.{of_net, Good}
use Rattle.boards.proofs.Beginning.{new_good, new_least}
use Rattle.boards.proofs.board.Board.new.Goals as goal

pub invariant_of-net : goal.invariant_of-net
invariant_of-net c = record { good = ∣ subst Good (sym c.one_station.ensures) new_good ∣₁ }

pub invariant_of-timed : goal.invariant_of-timed
invariant_of-timed c = record { least = ∣ subst (λ N. Least (of_net N) (take N.stations (replicate 64 0))) (sym c.one_station.ensures) new_least ∣₁ }
