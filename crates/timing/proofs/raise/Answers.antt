use Rattle.timing.proofs.Paced.{raised}
use Rattle.timing.proofs.raise.Goals as goal

pub returns : goal.returns
returns c = raised c.args.net.now.net c.args.pace c.at_pace.result c.as_ref.result c.as_ref.ensures.value c.map.result c.at_pace.ensures c.map.ensures.cases
