use Rattle.std.proofs.Common.{◌≡◌, ◌+◌, ◌*◌, ◌≤◌, ◌++◌, length, take}
use Rattle.reports.specs.Bytes.{spaced}
use Rattle.reports.proofs.buffer.Report.push_spaced.Given as goal

abbrev pub invariant-loop-item : goal.invariant-loop-item
invariant-loop-item g l = record {
  bytes : l.self ≡ l.initial.self ++ spaced g.R.Row.shown (take l.item-index l.items);
  bound : length l.self ≤ length l.initial.self + (g.R.Row.most + 1) * l.item-index;
}
