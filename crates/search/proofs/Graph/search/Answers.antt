use Rattle.std.proofs.Common.{refl, ◌∙◌, rules}
use Rattle.std.proofs.lemmas.List.{get_or-replicate}
use Rattle.search.specs.Levels.{first}
use Rattle.search.proofs.Histories.{history_room, history_least, history_more, history_past, wider, marked_next, raised_node, row_in}
use Rattle.search.proofs.Graph.search.Goals as goal

pub loop-via-init : goal.loop-via-init
loop-via-init g c = record {
  levels = first refl refl (λ y h. get_or-replicate 64 y c.none-starts.result g.L.Joining.neutral h ∙ c.none-starts.ensures);
  last = refl;
}

pub next_level-requires : goal.next_level-requires
next_level-requires g c =
    let s = c.args.self.now.searchable in
    let row = row_in c.loop-via.vias _ c.loop-via.via-index _ c.loop-via.auto.vias c.loop-via-test.true in
    (search rules, history_room g.met.L.Joining.joins g.met.L.OrderedLength.orders _ _ g.L.Joining.LARGEST (wider c.args.self.now.edges.now c.args.self.now.nodes 64 s.few s.inside) s.room row.1 c.loop-via.invariant.levels)

pub loop-via-preserved : goal.loop-via-preserved
loop-via-preserved g c =
    let s = c.args.self.now.searchable in
    let row = row_in c.loop-via.vias _ c.loop-via.via-index _ c.loop-via.auto.vias c.loop-via-test.true in
    let level = c.in-Some.ensures in
    record {
      levels = history_more _ _ c.loop-via.via-index _ _ _ _ row.0 c.loop-via.invariant.levels level;
      last = (raised_node _ _ _ _ _ c.args.self.now.nodes s.inside _ _ _ level, marked_next _ _ _ _ row.0 level.most.1);
    }

pub returns-in_default-clause-found : goal.returns-in_default-clause-found
returns-in_default-clause-found g c =
    let s = c.args.self.now.searchable in
    let row = row_in c.loop-via.vias _ c.loop-via.via-index _ c.loop-via.auto.vias c.loop-via-test.true in
    history_least g.met.L.Joining.joins g.met.L.OrderedLength.orders _ _ c.args.self.now.nodes s.inside s.few _ _ row.1 c.loop-via.invariant.levels c.in_default.ensures

pub returns-in_default-clause-past : goal.returns-in_default-clause-past
returns-in_default-clause-past g c =
    let s = c.args.self.now.searchable in
    history_past g.met.L.Joining.joins g.met.L.OrderedLength.orders _ _ c.args.self.now.nodes s.inside s.few c.loop-via.invariant.levels

pub returns-in-None-clause-past : goal.returns-in-None-clause-past
returns-in-None-clause-past g c =
    let s = c.args.self.now.searchable in
    history_past g.met.L.Joining.joins g.met.L.OrderedLength.orders _ _ c.args.self.now.nodes s.inside s.few c.loop-via.invariant.levels
