use Rattle.std.proofs.Common.{◌≡◌, ℕ, ◌≤◌, length, get_or, take, sym, refl, ap, ◌∙◌, subst, arith, rules}
use Rattle.rules.specs.Rules.{Least}
use Rattle.lengths.specs.Models.{no_ticks, more_ticks}
use Rattle.search.specs.Terms.{LeastStarts, EdgeCircuit}
use Rattle.nets.specs.declared.sound.SoundNet.{SoundNet}
use Rattle.nets.specs.Views.{of_net}
use Rattle.nets.proofs.Alone.{good}
use Rattle.timing.specs.Edges.{edges_of, in_ticks}
use Rattle.timing.specs.Timing.{Told}
use Rattle.timing.proofs.Orders.{ticks_order}
use Rattle.timing.proofs.Bridge.{listed}
use Rattle.timing.proofs.Answered.{least_starts, rest, starts_sized, known_in, told_all, numbered, sized, all_sized}
use Rattle.timing.proofs.solve.solve_net.Goals as goal

pub invariant_of-result : goal.invariant_of-result
invariant_of-result c =
    let net = c.of-steps.result.net.now in
    let N = of_net net.net in
    let best = c.in-Ok.best in
    let starts = c.starts_at-starts.result in
    let L = subst (λ below. LeastStarts no_ticks more_ticks below net.net.stations (edges_of N (in_ticks N)) best) ticks_order c.in-Ok.ensures.0 in
    let l = least_starts net.net (good _ net.good) best L c.in-Ok.ensures.1 starts (search rules) c.starts_at-starts.ensures in
    record { least = subst (λ (z : SoundNet). ∥ Least (of_net z.net) (take z.net.stations starts) ∥₁) c.of-steps.ensures ∣ l ∣₁ }

pub returns-in-Ok : goal.returns-in-Ok
returns-in-Ok c =
    let net = c.of-steps.result.net.now in
    let G = good _ net.good in
    let N = of_net net.net in
    let best = c.in-Ok.best in
    let starts = c.starts_at-starts.result in
    let L = subst (λ below. LeastStarts no_ticks more_ticks below net.net.stations (edges_of N (in_ticks N)) best) ticks_order c.in-Ok.ensures.0 in
    record {
      its_net = refl;
      rest = subst (λ (z : SoundNet). (y : ℕ) → z.net.stations ≤ y → get_or starts y 0 ≡ 0) c.of-steps.ensures (rest net.net G best L c.in-Ok.ensures.1 starts (search rules) c.starts_at-starts.ensures);
      starts_sized = starts_sized net.net G best L c.in-Ok.ensures.1 starts (search rules) c.starts_at-starts.ensures;
    }

pub told-told-requires : goal.told-told-requires
told-told-requires c =
    let steps = c.of-steps.result in
    let net = steps.net.now in
    let N = of_net net.net in
    let items = steps.list.items in
    let C = subst (λ below. EdgeCircuit no_ticks more_ticks below (edges_of N (in_ticks N)) c.in-Err.circuit) ticks_order c.in-Err.ensures in
    record { known = known_in net.net (good _ net.good) items (listed N items items steps.all refl) c.in-Err.circuit C }

pub invariant_of-result-in-Err : goal.invariant_of-result-in-Err
invariant_of-result-in-Err c =
    let steps = c.of-steps.result in
    let net = steps.net.now in
    let N = of_net net.net in
    let items = steps.list.items in
    let cs = c.in-Err.circuit in
    let told = c.new-steps.result in
    let steps_are = c.new-steps.ensures ∙ c.told-told.ensures.steps in
    let C = subst (λ below. EdgeCircuit no_ticks more_ticks below (edges_of N (in_ticks N)) cs) ticks_order c.in-Err.ensures in
    let q = listed N items items steps.all refl in
    record {
      numbered = numbered net.net (good _ net.good) items q cs C told steps_are;
      sized = λ i h. omega (arith, sized net.net (good _ net.good) items q cs C told steps_are i h);
    }

pub returns-in-Err : goal.returns-in-Err
returns-in-Err c =
    let steps = c.of-steps.result in
    let net = steps.net.now in
    let N = of_net net.net in
    let items = steps.list.items in
    let cs = c.in-Err.circuit in
    let told = c.new-steps.result in
    let steps_are = c.new-steps.ensures ∙ c.told-told.ensures.steps in
    let C = subst (λ below. EdgeCircuit no_ticks more_ticks below (edges_of N (in_ticks N)) cs) ticks_order c.in-Err.ensures in
    let q = listed N items items steps.all refl in
    record {
      few = omega (arith, ap length c.new-steps.ensures, c.told-told.ensures.few);
      told = subst (λ (z : SoundNet). Told (of_net z.net) told) c.of-steps.ensures (subst (Told N) (sym steps_are) (told_all net.net (good _ net.good) items q cs C));
      lengths_sized = all_sized net.net (good _ net.good) items q cs C told steps_are;
    }
