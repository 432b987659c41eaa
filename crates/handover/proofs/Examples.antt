-- The law at numbers: `refl` and `lit≤ tt` compute every premise. Assumes nothing.
use Rattle.std.proofs.Common.{refl, arith, lit≤}
use Rattle.handover.specs.Supply.{Covered}
use Rattle.handover.specs.Gcd.{Coprime}
use Rattle.handover.proofs.Gcd.{coprime}
use Rattle.handover.proofs.Timetable.{equal_rates}

three_two : Coprime 3 2
three_two = (coprime 3 2).0 refl

-- 6 every 30 from 0, and 5 in store, cover 4 every 20 from 0
covered : Covered 5 6 4 0 30 0 20
covered = (equal_rates 6 4 3 2 10 (lit≤ tt) (lit≤ tt) (lit≤ tt) (lit≤ tt) (lit≤ tt) refl 5 0 0).1 (lit≤ tt)

-- with 1 in store and the first arrival at 20, a first draw at 29 is too early, and one at 30 is not
too_early : Covered 1 6 4 20 30 29 20 → ⊥
too_early c = omega (arith, (equal_rates 6 4 3 2 10 (lit≤ tt) (lit≤ tt) (lit≤ tt) (lit≤ tt) (lit≤ tt) refl 1 20 29).0 c)

in_time : Covered 1 6 4 20 30 30 20
in_time = (equal_rates 6 4 3 2 10 (lit≤ tt) (lit≤ tt) (lit≤ tt) (lit≤ tt) (lit≤ tt) refl 1 20 30).1 (lit≤ tt)
