use Rattle.std.proofs.Common.{◌≡◌, ◌++◌, length, ap, ◌∙◌, arith}
use Rattle.rules.specs.Net.{stations}
use Rattle.nets.specs.Views.{of_net}
use Rattle.nets.proofs.Alone.{good}
use Rattle.timing.specs.Listing.{links_to, owns_to}
use Rattle.timing.proofs.Opened.{stations_are}
use Rattle.timing.proofs.list.Steps.of.Goals as goal

pub invariant_of-result : goal.invariant_of-result
invariant_of-result c =
    let net = c.args.net.now in
    let N = of_net net.net in
    let e : c.loop-i.i ≡ stations N = omega (arith, stations_are net.net (good _ net.good)) in
    record { all = ∣ c.loop-i.invariant.steps ∙ ap (λ i. links_to N (length N.links) ++ owns_to i) e ∣₁ }
