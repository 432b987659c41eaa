use Rattle.std.proofs.Common.{◌≡◌, ◌+◌, ◌≤◌, ◌∷◌, [], ◌++◌, length, drop, sym, ap, ◌∙◌, subst, arith, inl, inr}
use Rattle.std.proofs.lemmas.List.{length-append, length-drop}
use Rattle.rules.specs.Net.{stations}
use Rattle.nets.specs.Views.{of_net}
use Rattle.nets.proofs.Alone.{good}
use Rattle.timing.proofs.Paced.{Slowest, slower_found, none_slower, front_of, first_is}
use Rattle.timing.proofs.pace.first_pace.Goals as goal

pub loop-duration-preserved : goal.loop-duration-preserved
loop-duration-preserved c =
    let net = c.args.net.now in
    let N = of_net net.net in
    let S = (good _ net.good).sound in
    let i = c.loop-duration.invariant in
    let k = length c.loop-duration.yielded in
    let n : k + 1 ≡ length (c.loop-duration.yielded ++ ((c.in-Some.field-0-0, c.in-Some.field-0-1) ∷ [])) = omega (arith, length-append c.loop-duration.yielded ((c.in-Some.field-0-0, c.in-Some.field-0-1) ∷ [])) in
    let d = front_of N.durations k _ _ (sym i.durations ∙ c.in-Some.ensures.steps.0) in
    let r = front_of N.rates k _ _ (sym i.rates ∙ c.in-Some.ensures.steps.1) in
    record {
      slowest = subst (λ z. Slowest N z c.loop-duration.slowest) n (none_slower N S k c.loop-duration.slowest i.slowest c.in-Some.field-0-0.now c.in-Some.field-0-1.now d.0 d.1 r.1 c.if-slowest-rate.false);
      durations = d.2 ∙ ap (λ z. drop z N.durations) n;
      rates = r.2 ∙ ap (λ z. drop z N.rates) n;
    }

pub loop-duration-preserved-then-slowest-rate : goal.loop-duration-preserved-then-slowest-rate
loop-duration-preserved-then-slowest-rate c =
    let net = c.args.net.now in
    let N = of_net net.net in
    let S = (good _ net.good).sound in
    let i = c.loop-duration.invariant in
    let k = length c.loop-duration.yielded in
    let n : k + 1 ≡ length (c.loop-duration.yielded ++ ((c.in-Some.field-0-0, c.in-Some.field-0-1) ∷ [])) = omega (arith, length-append c.loop-duration.yielded ((c.in-Some.field-0-0, c.in-Some.field-0-1) ∷ [])) in
    let d = front_of N.durations k _ _ (sym i.durations ∙ c.in-Some.ensures.steps.0) in
    let r = front_of N.rates k _ _ (sym i.rates ∙ c.in-Some.ensures.steps.1) in
    record {
      slowest = subst (λ z. Slowest N z (c.in-Some.field-0-0.now, c.in-Some.field-0-1.now)) n (slower_found N S k c.loop-duration.slowest i.slowest c.in-Some.field-0-0.now c.in-Some.field-0-1.now d.0 d.1 r.1 c.if-slowest-rate.true);
      durations = d.2 ∙ ap (λ z. drop z N.durations) n;
      rates = r.2 ∙ ap (λ z. drop z N.rates) n;
    }

pub returns : goal.returns
returns c =
    let net = c.args.net.now in
    let N = of_net net.net in
    let S = (good _ net.good).sound in
    let i = c.loop-duration.invariant in
    let k = length c.loop-duration.yielded in
    let past : stations N ≤ k = elim c.in-None.ensures.steps [
      | inl x ↦ omega (arith, ap length i.durations, length-drop k N.durations, x.1.0)
      | inr x ↦ omega (arith, ap length i.rates, length-drop k N.rates, S.rated, x.1.0)
    ] in
    first_is N k c.loop-duration.slowest i.slowest past
