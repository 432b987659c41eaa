use Rattle.std.proofs.lemmas.Result.{err_from_is_err_and}
use Rattle.drafts.specs.Numbers.{fault_of}
use Rattle.texts.proofs.Asked.{judged_judges, asks_err, asks_placed}
use Rattle.texts.proofs.reader.Reader.judged.Goals as goal

pub returns-in_err-value : goal.returns-in_err-value
returns-in_err-value c =
    asks_err c.args.self.now c.number.new.self (fault_of c.args.number) _ c.in_err-value.ensures.reads
    c.from_residual.result (err_from_is_err_and c.from_residual.result c.from_residual.ensures.1)

pub returns : goal.returns
returns c =
    let n = c.in_ok-value.value in
    asks_placed c.args.self.now c.number.new.self (fault_of c.args.number) c.judge.ensures.capped n c.in_ok-value.ensures.reads c.in_ok-value.ensures.same
    c.judge.result (judged_judges (fault_of c.args.number) n c.judge.result c.judge.ensures.judged) c.placed.result c.placed.ensures
