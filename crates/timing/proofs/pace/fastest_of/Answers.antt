use Rattle.std.proofs.Common.{sym, subst}
use Rattle.nets.specs.Views.{of_net}
use Rattle.nets.proofs.Alone.{good}
use Rattle.timing.specs.Pacing.{FastestPace}
use Rattle.timing.specs.declared.Raised.TheVariants.{Enough, To, Never}
use Rattle.timing.proofs.Paced.{raises_at, own_named, fastest_named_lem, divisor_some, falls, no_pace}
use Rattle.timing.proofs.pace.fastest_of.Goals as goal

pub returns-then-pairs_above : goal.returns-then-pairs_above
returns-then-pairs_above c =
    let net = c.args.net.now in
    no_pace net.net (good _ net.good) (c.pairs_above.ensures.above c.if-pairs_above.true)

pub loop-slower-init : goal.loop-slower-init
loop-slower-init c =
    let net = c.args.net.now in
    own_named net.net (good _ net.good) c.first_pace-pace.result c.first_pace-pace.ensures

pub reduced-requires : goal.reduced-requires
reduced-requires c = record { some = divisor_some (of_net c.args.net.now.net) c.loop-slower.pace c.loop-slower.invariant }

pub returns-in-Enough : goal.returns-in-Enough
returns-in-Enough c =
    let net = c.args.net.now in
    let p = c.loop-slower.pace in
    let r = raises_at net.net p c.repaced.result.net c.repaced.ensures Enough c.in-Enough.ensures in
    subst (FastestPace (of_net net.net)) (sym c.reduced.ensures) (fastest_named_lem net.net (good _ net.good) p c.loop-slower.invariant r)

pub loop-slower-smaller : goal.loop-slower-smaller
loop-slower-smaller c =
    let net = c.args.net.now.net in
    let p = c.loop-slower.pace in
    let r = raises_at net p c.repaced.result.net c.repaced.ensures (To c.in-To.slower) c.in-To.ensures in
    falls (of_net net) p c.in-To.slower c.loop-slower.invariant r.0 r.1

pub loop-slower-preserved : goal.loop-slower-preserved
loop-slower-preserved c =
    (raises_at c.args.net.now.net c.loop-slower.pace c.repaced.result.net c.repaced.ensures (To c.in-To.slower) c.in-To.ensures).0

pub returns-in-Never : goal.returns-in-Never
returns-in-Never c =
    raises_at c.args.net.now.net c.loop-slower.pace c.repaced.result.net c.repaced.ensures Never c.in-Never.ensures
