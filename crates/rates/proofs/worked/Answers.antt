use Rattle.rates.proofs.Examples.{worked}
use Rattle.rates.proofs.worked.Goals as goal

pub returns : goal.returns
returns c = worked
