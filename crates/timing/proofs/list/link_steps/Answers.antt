use Rattle.std.proofs.Common.{◌≡◌, length, sym, ap, ◌∙◌, arith}
use lib.ListN.{length-map}
use Rattle.arrayvec.specs.ArrayVec.{array_vec_len}
use Rattle.nets.specs.Views.{of_net, of_link, of_slot}
use Rattle.nets.proofs.Alone.{good}
use Rattle.timing.specs.Listing.{links_to}
use Rattle.timing.proofs.Opened.{opened, closed}
use Rattle.timing.proofs.Listings.{turn_none, turn_one, turn_two}
use Rattle.timing.proofs.list.link_steps.Goals as goal
use Rattle.timing.proofs.list.link_steps.Goals.{in-Some+then-is_some, in-Some+else-is_some, in_default}

pub loop-k-preserved : goal.loop-k-preserved
loop-k-preserved c =
    let p = c.loop-k.invariant in
    let net = c.args.net.now.net in
    let N = of_net net in
    let k = c.loop-k.k in
    let items = c.loop-k.list.items in
    elim c.match-slot.branch [
      | in-Some+then-is_some w ↦ record {
        few = omega (arith, ap array_vec_len w.list-is, w.push.ensures.len, w.push-then-is_some.ensures.len);
        links = turn_two N k items p.links (of_link w.in-Some.link) (opened net k w.in-Some.link w.in-Some.is) (sym w.is_some.ensures ∙ w.if-is_some.true) _ _ w.push.ensures.items (ap (λ v. v.items) w.list-is ∙ w.push-then-is_some.ensures.items);
      }
      | in-Some+else-is_some w ↦ record {
        few = omega (arith, ap array_vec_len w.list-is, w.push.ensures.len);
        links = turn_one N k items p.links (of_link w.in-Some.link) (opened net k w.in-Some.link w.in-Some.is) (sym w.is_some.ensures ∙ w.if-is_some.false) _ (ap (λ v. v.items) w.list-is ∙ w.push.ensures.items);
      }
      | in_default w ↦ record {
        few = omega (arith, ap array_vec_len w.list-is);
        links = turn_none N k items p.links (closed net k w.in_default.is) _ (ap (λ v. v.items) w.list-is);
      }
    ]

pub returns-clause-links : goal.returns-clause-links
returns-clause-links c =
    let whole = (good _ c.args.net.now.good).whole in
    let e : c.loop-k.k ≡ length (of_net c.args.net.now.net).links = omega (arith, length-map c.args.net.now.net.links of_slot) in
    c.loop-k.invariant.links ∙ ap (links_to (of_net c.args.net.now.net)) e
