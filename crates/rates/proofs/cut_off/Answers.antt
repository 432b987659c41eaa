use Rattle.std.proofs.Common.{sym, subst}
use Rattle.nets.specs.Views.{of_net}
use Rattle.nets.proofs.Alone.{ranged}
use Rattle.rates.specs.Reaching.{Led, Lowest}
use Rattle.rates.proofs.Starts.{led_first}
use Rattle.rates.proofs.Links.{lead_in}
use Rattle.rates.proofs.Fronts.{marked_led, marked_fewer, cut}
use Rattle.rates.proofs.Tables.{stations_of}
use Rattle.rates.proofs.cut_off.Goals as goal

pub loop-lead-init : goal.loop-lead-init
loop-lead-init c = subst (Led (of_net c.args.checked.now.net)) (sym c.first-numbers.ensures) (led_first (of_net c.args.checked.now.net))

pub bounds-numbers-lead : goal.bounds-numbers-lead
bounds-numbers-lead c = (lead_in (of_net c.args.checked.now.net) (ranged _ c.args.checked.now.ranged).checked c.loop-lead.numbers.z c.in-Some.lead c.in-Some.ensures).1

pub loop-lead-smaller : goal.loop-lead-smaller
loop-lead-smaller c = marked_fewer (of_net c.args.checked.now.net) c.loop-lead.numbers.z c.in-Some.lead (ranged _ c.args.checked.now.ranged).checked c.loop-lead.invariant c.in-Some.ensures

pub loop-lead-preserved : goal.loop-lead-preserved
loop-lead-preserved c = marked_led (of_net c.args.checked.now.net) c.loop-lead.numbers.z c.in-Some.lead (ranged _ c.args.checked.now.ranged).checked c.loop-lead.invariant c.in-Some.ensures

pub returns : goal.returns
returns c =
    cut (of_net c.args.checked.now.net) c.loop-lead.numbers.z c.lowest.result c.loop-lead.invariant c.in_default.ensures
    (subst (λ n. Lowest n c.loop-lead.numbers.z c.lowest.result) (sym (stations_of _ (ranged _ c.args.checked.now.ranged).whole)) c.lowest.ensures)
