use Rattle.std.proofs.Common.{sym, ◌∙◌}
use Rattle.timing.proofs.Paired.{told_above, told_allowed}
use Rattle.timing.proofs.pace.pairs_above.Goals as goal

pub returns : goal.returns
returns c =
    let net = c.args.net.now in
    record {
      above = λ e. told_above net c.of.result.net.now c.of.ensures c.search.result c.search.ensures (sym c.is_err.ensures.value ∙ e);
      allows = λ e. told_allowed net c.of.result.net.now c.of.ensures c.search.result c.search.ensures (sym c.is_err.ensures.value ∙ e);
    }
