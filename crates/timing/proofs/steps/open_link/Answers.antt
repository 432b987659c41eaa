use Rattle.nets.proofs.Alone.{good}
use Rattle.timing.proofs.Opened.{below, not_none, opened}
use Rattle.timing.proofs.steps.open_link.Goals as goal

pub bounds-net-k : goal.bounds-net-k
bounds-net-k c = below c.args.net.now.net c.args.k c.requires.here (good _ c.args.net.now.good)

pub unreachable-requires : goal.unreachable-requires
unreachable-requires c = not_none c.args.net.now.net c.args.k c.requires.here c.in-None.is

pub returns : goal.returns
returns c = opened c.args.net.now.net c.args.k c.in-Some.l c.in-Some.is
