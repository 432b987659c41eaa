use Rattle.std.proofs.Common.{◌≡◌, ◌≤◌, ◌++◌, length, drop, decimal}
use Rattle.reports.proofs.decimal.put_number.Given as goal

-- the digits from the place on are written: before them stand those of what is left
abbrev pub invariant-loop-rest : goal.invariant-loop-rest
invariant-loop-rest l = record {
  within : l.place ≤ l.count;
  left : l.place ≡ length (decimal l.rest);
  written : decimal l.n ++ drop l.count l.initial.out ≡ decimal l.rest ++ drop l.place l.out;
}

abbrev pub decreases-loop-rest : goal.decreases-loop-rest
decreases-loop-rest l = l.rest
