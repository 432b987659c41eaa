use Rattle.std.proofs.Common.{◌≡◌, length, drop}
use Rattle.nets.specs.Views.{of_net}
use Rattle.timing.proofs.Paced.{Slowest}
use Rattle.timing.proofs.pace.first_pace.Given as goal

abbrev pub invariant-loop-duration : goal.invariant-loop-duration
invariant-loop-duration l =
    let N = of_net l.net.net in
    let k = length l.yielded in
    record {
      slowest : Slowest N k l.slowest;
      durations : l.duration-iterator.a.rest.now ≡ drop k N.durations;
      rates : l.duration-iterator.b.rest.now ≡ drop k N.rates;
    }
