use Rattle.std.proofs.Common.{◌≡◌, length, ap, ◌∙◌}
use Rattle.arrayvec.proofs.ArrayVecLemmas.{items-with_items}
use Rattle.search.proofs.Turning.{turned, circuit_from, rising_some, rising_known}
use Rattle.search.proofs.Graph.from_lowest.Goals as goal

pub lowest_place-lowest-requires : goal.lowest_place-lowest-requires
lowest_place-lowest-requires g c =
    rw c.deref.ensures.0 (record {
      some = rising_some g.met.L.Joining.joins g.met.L.OrderedLength.orders c.args.self.now.edges.now c.args.chain.items c.requires;
      known = rising_known g.met.L.Joining.joins g.met.L.OrderedLength.orders c.args.self.now.edges.now c.args.chain.items c.requires;
    })

pub returns : goal.returns
returns g c =
    let now : c.rotate_left.new.self ≡ turned c.lowest_place-lowest.result c.args.chain.items = c.rotate_left.ensures.after ∙ ap (turned c.lowest_place-lowest.result) c.deref_mut.ensures.value in
    let kept = items-with_items c.args.chain c.rotate_left.new.self (c.rotate_left.ensures.len ∙ ap length c.deref_mut.ensures.value) in
    rw (c.new.ensures, kept, now)
    (circuit_from g.met.L.Joining.joins g.met.L.OrderedLength.orders c.args.self.now.edges.now c.args.chain.items c.lowest_place-lowest.result c.requires (rw c.deref.ensures.0 at c.lowest_place-lowest.ensures))
