use Rattle.std.proofs.Common.{rules, arith}
use Rattle.nets.proofs.Alone.{ranged}
use Rattle.rates.proofs.Tables.{replaced_by, good_by}
use Rattle.rates.proofs.with_numbers.Goals as goal

pub overflow_cast-stations : goal.overflow_cast-stations
overflow_cast-stations c = let few = (ranged _ c.args.checked.now.ranged).whole.few in search rules

pub slice_bounds-copy_from_slice-end : goal.slice_bounds-copy_from_slice-end
slice_bounds-copy_from_slice-end c = let few = (ranged _ c.args.checked.now.ranged).whole.few in search rules

pub invariant_of-result : goal.invariant_of-result
invariant_of-result c = record { good = ∣ good_by c.args.checked.now.net (ranged _ c.args.checked.now.ranged) c.args.numbers.now.z c.copy_from_slice.new.self (omega arith) c.copy_from_slice.ensures.after c.requires ∣₁ }

pub returns : goal.returns
returns c = replaced_by c.args.checked.now.net (ranged _ c.args.checked.now.ranged) c.args.numbers.now.z c.copy_from_slice.new.self (omega arith) c.copy_from_slice.ensures.after c.requires
