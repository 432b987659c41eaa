use Rattle.std.proofs.Common.{None, length, ap, arith}
use Rattle.std.proofs.lemmas.Result.{err_from_is_err_and}
use Rattle.drafts.specs.Entries.{duration_fault}
use Rattle.texts.specs.NetForm.{duration_entry}
use Rattle.texts.proofs.Taken.{read_left, read_plain}
use Rattle.texts.proofs.reader.rows.U16Row.read.Goals as goal

pub returns-in_err-duration : goal.returns-in_err-duration
returns-in_err-duration c =
    let r = c.from_residual.result in
    read_left (λ i. duration_entry) duration_fault (λ i d. None) c.args.reader.now r c.judged.new.self _ (err_from_is_err_and r c.from_residual.ensures.1) (λ i k. c.in_err-duration.ensures.reads k)

pub returns : goal.returns
returns c =
    let x = c.args.reader.now in
    let same = c.in_ok-duration.ensures.same in
    read_plain (λ i. duration_entry) duration_fault x c.judged.new.self c.in_ok-duration.duration x.at
    (λ i k. c.in_ok-duration.ensures.reads k) c.in_ok-duration.ensures.fine (omega (arith, ap length same, x.within)) same
