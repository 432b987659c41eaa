use Rattle.std.proofs.lemmas.Result.{err_from_is_err_and}
use Rattle.nets.proofs.Alone.{good}
use Rattle.offers.proofs.Offering.{offer, no_offer}
use Rattle.offers.proofs.survey.offered_net.Goals as goal

pub returns-in_err-net : goal.returns-in_err-net
returns-in_err-net c = record {
  whole = c.in_ok-checked.ensures.whole;
  offers =
      no_offer c.args.filled.now.sizes c.args.tables.now c.in_ok-checked.checked.net
      c.in_ok-checked.ensures.checks.0 c.in_ok-checked.ensures.checks.1 _ c.from_residual-in_err-net.result
      c.in_err-net.ensures (err_from_is_err_and c.from_residual-in_err-net.result c.from_residual-in_err-net.ensures.1);
}

pub returns : goal.returns
returns c = record {
  whole = c.in_ok-checked.ensures.whole;
  offers =
      offer c.args.filled.now.sizes c.args.tables.now c.in_ok-checked.checked.net
      c.in_ok-checked.ensures.checks.0 c.in_ok-checked.ensures.checks.1 c.in_ok-net.net.net
      c.in_ok-net.ensures.0 c.in_ok-net.ensures.1 (good c.in_ok-net.net.net c.in_ok-net.net.good);
}
