use Rattle.std.proofs.Common.{sym, ◌∙◌}
use Rattle.handover.proofs.Options.{none_some}
use Rattle.forms.specs.Form.{done}
use Rattle.texts.specs.Reading.{rest}
use Rattle.texts.proofs.Steps.{run_done_end, run_done_more}
use Rattle.texts.proofs.Chains.{halts_form}
use Rattle.texts.proofs.reader.Reader.end.Goals as goal

pub returns-in-None : goal.returns-in-None
returns-in-None c = λ a. run_done_end c.args.self.now.at a (rest c.args.self.now) (sym c.in-None.ensures)

pub returns-in-Some : goal.returns-in-Some
returns-in-Some c =
    let x = c.args.self.now in
    λ a. halts_form x (done a) c.broken.result
    (run_done_more x.at a (rest x) (λ e. none_some _ (sym e ∙ sym c.in-Some.ensures))) c.broken.ensures.said c.broken.ensures.worded
