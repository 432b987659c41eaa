use Rattle.handover.proofs.Rates.{rates}
use Rattle.handover.proofs.rates_hold.Goals as goal

pub returns : goal.returns
returns c = rates
