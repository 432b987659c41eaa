-- The number without its last digit is below the power that is found, and below none before it.
use Rattle.std.proofs.Common.{◌/◌, ◌^◌, ◌<◌, ◌≤◌, sym, subst, arith, rules, tests}
use Rattle.std.proofs.lemmas.Iterator.{IsFirst-from_position, YieldsList-from_slice}
use Rattle.reports.proofs.Powers.{tens, entry, width}
use Rattle.reports.proofs.decimal.digit_count.Goals as goal

pub returns-in-Some-clause-count : goal.returns-in-Some-clause-count
returns-in-Some-clause-count c =
    let m = c.args.n / 10 in
    let first = rw c.in-Some.is at (IsFirst-from_position _ _ c.position.result (λ p. m < p) (λ p. p ≤ m) c.position.ensures.ran (YieldsList-from_slice (tens 19) c.iter.ensures.rest) (λ x q k. search (rules, tests)) (λ x q k. search (rules, tests))) in
    sym (width c.in-Some.k c.args.n (omega arith) (λ j l. subst (λ p. p ≤ m) (entry 19 j 0 (omega (arith, first.0))) (first.2 j 0 (omega arith) l)) (subst (λ p. m < p) (entry 19 c.in-Some.k 0 first.0) (first.1 0)))

pub returns-in-None-clause-count : goal.returns-in-None-clause-count
returns-in-None-clause-count c =
    let m = c.args.n / 10 in
    let none = rw c.in-None.is at (IsFirst-from_position _ _ c.position.result (λ p. m < p) (λ p. p ≤ m) c.position.ensures.ran (YieldsList-from_slice (tens 19) c.iter.ensures.rest) (λ x q k. search (rules, tests)) (λ x q k. search (rules, tests))) in
    let top : m < 10 ^ 19 = omega arith in
    sym (width 19 c.args.n (omega arith) (λ j l. subst (λ p. p ≤ m) (entry 19 j 0 l) (none j 0 (omega arith) l)) top)
