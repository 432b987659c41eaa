use Rattle.std.proofs.Common.{arith}
use Rattle.search.proofs.Fronts.{lower, no_lower}
use Rattle.search.proofs.Graph.lowest_place.Goals as goal
use Rattle.search.proofs.Graph.lowest_place.Goals.{then-begin_of, else-begin_of}

pub loop-t-preserved : goal.loop-t-preserved
loop-t-preserved g c =
    let es = c.args.self.now.edges.now in
    let chain = c.args.chain.now in
    let p = c.loop-t.invariant in
    elim c.if-begin_of.branch [
      | then-begin_of w ↦ (omega (arith, w.place-is, c.loop-t-test.true), lower es chain c.loop-t.place c.loop-t.t _ p.1 (omega (arith, w.if-begin_of.true, c.begin_of.ensures, c.begin_of-in-loop-t.ensures)) w.place-is)
      | else-begin_of w ↦ (omega (arith, w.place-is, p.0), no_lower es chain c.loop-t.place c.loop-t.t _ p.1 (omega (arith, w.if-begin_of.false, c.begin_of.ensures, c.begin_of-in-loop-t.ensures)) w.place-is)
    ]
