use Rattle.std.proofs.Common.{◌-◌, ◌/◌, ◌≤◌, ◌++◌, drop, set, decimal, sym, ap, ◌∙◌, arith}
use Rattle.std.proofs.lemmas.Fmt.{decimal_nonempty}
use Rattle.reports.proofs.Powers.{single, shorter, digit_on, digit_first}
use Rattle.reports.proofs.decimal.put_number.Goals as goal

pub overflow_sub-place : goal.overflow_sub-place
overflow_sub-place c = omega (arith, c.loop-rest.invariant.left, decimal_nonempty c.loop-rest.rest (omega arith))

pub bounds-out-place : goal.bounds-out-place
bounds-out-place c = omega (arith, c.loop-rest.invariant.within, c.loop-rest.invariant.left, decimal_nonempty c.loop-rest.rest (omega arith))

pub loop-rest-preserved : goal.loop-rest-preserved
loop-rest-preserved c =
    let n = c.loop-rest.rest in
    let k = c.loop-rest.place in
    let ten = c.loop-rest-test.true in
    let some : 1 ≤ k = omega (arith, c.loop-rest.invariant.left, decimal_nonempty n (omega arith)) in
    record {
      within = omega arith;
      left = shorter n k (omega arith) ten c.loop-rest.invariant.left;
      written = c.loop-rest.invariant.written ∙ digit_on n k c.loop-rest.out (omega arith) ten some (omega arith)
          ∙ ap (λ d. decimal (n / 10) ++ drop (k - 1) (set c.loop-rest.out (k - 1) d)) (sym c.digit.ensures);
    }

pub returns-clause-bytes : goal.returns-clause-bytes
returns-clause-bytes c =
    let n = c.loop-rest.rest in
    let one = single n c.loop-rest.place c.loop-rest-test.false c.loop-rest.invariant.left in
    sym (c.loop-rest.invariant.written ∙ ap (λ k. decimal n ++ drop k c.loop-rest.out) one
    ∙ digit_first n c.loop-rest.out c.loop-rest-test.false (omega arith) ∙ ap (set c.loop-rest.out 0) (sym c.digit-2.ensures))
