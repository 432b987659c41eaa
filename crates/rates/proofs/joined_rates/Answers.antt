use Rattle.std.proofs.Common.{Bool, true, false, ◌↔◌, IsTrue, MatchOption, sym, refl, subst}
use Rattle.std.specs.Bool.{then_some}
use Rattle.std.proofs.lemmas.Bool.{false≢true}
use Rattle.nets.specs.Views.{of_net}
use Rattle.nets.proofs.Alone.{ranged}
use Rattle.rates.specs.declared.Numbers.{Numbers}
use Rattle.rates.specs.Reaching.{Part}
use Rattle.rates.proofs.Starts.{part_first}
use Rattle.rates.proofs.Links.{lead_in, lead_gives}
use Rattle.rates.proofs.Parts.{part_more, over, unbalanced, balanced_rates}
use Rattle.rates.proofs.Fronts.{reached_fewer}
use Rattle.rates.proofs.joined_rates.Goals as goal

pub loop-lead-init : goal.loop-lead-init
loop-lead-init c = subst (Part (of_net c.args.checked.now.net)) (sym c.first-numbers.ensures) (part_first (of_net c.args.checked.now.net))

pub reach-requires : goal.reach-requires
reach-requires c =
    let C = (ranged _ c.args.checked.now.ranged).checked in
    record {
      ends = lead_in (of_net c.args.checked.now.net) C c.loop-lead.numbers.z c.in-Some.lead c.in-Some.ensures;
      gives = lead_gives (of_net c.args.checked.now.net) C c.loop-lead.numbers.z c.in-Some.lead c.in-Some.ensures;
    }

pub returns-in_err-reach : goal.returns-in_err-reach
returns-in_err-reach c =
    let h = over (of_net c.args.checked.now.net) c.loop-lead.numbers.z c.reach.new.self.z c.in-Some.lead (ranged _ c.args.checked.now.ranged).checked c.loop-lead.invariant c.in-Some.ensures in
    rw c.from_residual.ensures (h c.in_err-reach.ensures)

pub loop-lead-smaller : goal.loop-lead-smaller
loop-lead-smaller c =
    reached_fewer (of_net c.args.checked.now.net) c.loop-lead.numbers.z c.reach.new.self.z c.in-Some.lead (ranged _ c.args.checked.now.ranged).checked c.loop-lead.invariant.many c.in-Some.ensures c.in_ok-reach.ensures

pub loop-lead-preserved : goal.loop-lead-preserved
loop-lead-preserved c =
    part_more (of_net c.args.checked.now.net) c.loop-lead.numbers.z c.reach.new.self.z c.in-Some.lead (ranged _ c.args.checked.now.ranged).checked c.loop-lead.invariant c.in-Some.ensures c.in_ok-reach.ensures

-- either balanced, or not
decided : {E P : Type 0} (Q : Numbers → Type 0) (b : Bool) (z : Numbers) → IsTrue b ↔ E → (E → Q z) → ((E → ⊥) → P) → MatchOption (then_some b z) P Q
decided Q true z d even uneven = even (d.0 refl)
decided Q false z d even uneven = uneven (λ e. false≢true (d.1 e))

pub returns : goal.returns
returns c =
    let h = balanced_rates (of_net c.args.checked.now.net) c.loop-lead.numbers.z (ranged _ c.args.checked.now.ranged).checked c.requires c.loop-lead.invariant c.in_default.ensures in
    let k = unbalanced (of_net c.args.checked.now.net) c.loop-lead.numbers.z (ranged _ c.args.checked.now.ranged).checked c.requires c.loop-lead.invariant c.in_default.ensures in
    rw c.then_some.ensures (decided _ c.balanced.result c.loop-lead.numbers c.balanced.ensures h k)
