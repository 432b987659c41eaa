use Rattle.std.proofs.Common.{sym, ap, ◌∙◌, arith}
use Rattle.std.proofs.lemmas.Result.{err_from_is_err_and}
use Rattle.drafts.proofs.Firsts.{passed, stopped, finished, exit}
use Rattle.drafts.proofs.check.check_each.Goals as goal

pub returns-in_err-check : goal.returns-in_err-check
returns-in_err-check g c =
    let f = g.E.Entry.fault c.args.stations in
    exit c.from_residual.result _ _ (err_from_is_err_and c.from_residual.result c.from_residual.ensures.1)
    (sym c.loop-e.invariant ∙ stopped (λ k. f) c.args.entries.now c.loop-e.e-index c.e-item.result (omega arith) _ (sym (ap f c.e-item.is) ∙ sym c.in_err-check.ensures))

pub loop-e-preserved : goal.loop-e-preserved
loop-e-preserved g c =
    let f = g.E.Entry.fault c.args.stations in
    passed (λ k. f) c.args.entries.now c.loop-e.e-index c.e-item.result (omega arith) (sym (ap f c.e-item.is) ∙ sym c.in_ok-check.ensures) ∙ c.loop-e.invariant

pub returns : goal.returns
returns g c = sym (finished (λ k. g.E.Entry.fault c.args.stations) c.args.entries.now c.loop-e.e-index (omega arith)) ∙ c.loop-e.invariant
