use Rattle.std.proofs.Common.{ℕ, replicate, sym, rules}
use lib.ListN.{length-replicate}
use Rattle.std.proofs.lemmas.Result.{err_from_is_err_and}
use Rattle.drafts.proofs.Firsts.{stops, fourth, fifth}
use Rattle.drafts.proofs.Ranging.{ranged}
use Rattle.drafts.proofs.check.check_entries.Goals as goal

pub invariant_of-result : goal.invariant_of-result
invariant_of-result c = record {
  ranged = ∣ ranged c.args.sizes c.args.tables.now.durations c.args.tables.now.ends c.args.tables.now.terms (replicate 64 0) c.draft_links.result
      (sym c.in_ok-check_sizes.ensures) (sym c.in_ok-check_each.ensures)
      (sym c.in_ok-check_each-2.ensures)
      (sym c.in_ok-check_each-3.ensures)
      (sym c.in_ok-check_rooms.ensures)
      (search rules) (search rules) (search rules) (length-replicate {A = ℕ} 64 0) c.draft_links.ensures.many c.draft_links.ensures.each ∣₁;
}

pub returns-in_err-check_each-3-clause-checks : goal.returns-in_err-check_each-3-clause-checks
returns-in_err-check_each-3-clause-checks c =
    let r = c.from_residual-in_err-check_each-3.result in
    stops c.args.sizes _ r _ (err_from_is_err_and r c.from_residual-in_err-check_each-3.ensures.1)
    (fourth _ _ _ _ _ _ (sym c.in_ok-check_sizes.ensures) (sym c.in_ok-check_each.ensures)
    (sym c.in_ok-check_each-2.ensures)
    (sym c.in_err-check_each-3.ensures))

pub returns-in_err-check_rooms-clause-checks : goal.returns-in_err-check_rooms-clause-checks
returns-in_err-check_rooms-clause-checks c =
    let r = c.from_residual-in_err-check_rooms.result in
    stops c.args.sizes _ r _ (err_from_is_err_and r c.from_residual-in_err-check_rooms.ensures.1)
    (fifth _ _ _ _ _ _ (sym c.in_ok-check_sizes.ensures) (sym c.in_ok-check_each.ensures)
    (sym c.in_ok-check_each-2.ensures)
    (sym c.in_ok-check_each-3.ensures)
    (sym c.in_err-check_rooms.ensures))
