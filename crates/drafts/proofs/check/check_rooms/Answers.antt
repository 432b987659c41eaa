use Rattle.std.proofs.Common.{sym, ◌∙◌, arith}
use Rattle.std.proofs.lemmas.Result.{err_from_is_err_and}
use Rattle.drafts.specs.Entries.{room_fault}
use Rattle.drafts.specs.Checks.{no_terms}
use Rattle.drafts.proofs.Firsts.{passed, stopped, finished, exit}
use Rattle.drafts.proofs.check.check_rooms.Goals as goal

pub returns-in_err-check_place : goal.returns-in_err-check_place
returns-in_err-check_place c =
    exit c.from_residual.result _ _ (err_from_is_err_and c.from_residual.result c.from_residual.ensures.1)
    (sym c.loop-k.invariant ∙ stopped room_fault c.args.terms.now c.loop-k.k no_terms (omega arith) _ (sym c.in_err-check_place.ensures))

pub loop-k-preserved : goal.loop-k-preserved
loop-k-preserved c = passed room_fault c.args.terms.now c.loop-k.k no_terms (omega arith) (sym c.in_ok-check_place.ensures) ∙ c.loop-k.invariant

pub returns : goal.returns
returns c = sym (finished room_fault c.args.terms.now c.loop-k.k (omega arith)) ∙ c.loop-k.invariant
