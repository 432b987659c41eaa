use Rattle.std.proofs.Common.{◌≡◌, ◌+◌, ◌≤◌, ◌++◌, map, length}
use Rattle.arrayvec.specs.ArrayVec.{array_vec_len}
use Rattle.nets.specs.Views.{of_net, of_step}
use Rattle.timing.specs.Listing.{links_to, owns_to}
use Rattle.timing.proofs.list.Steps.of.Given as goal

abbrev pub invariant-loop-i : goal.invariant-loop-i
invariant-loop-i l =
    let N = of_net l.net.net in
    record { few : array_vec_len l.list ≤ 256 + l.i; steps : map of_step l.list.items ≡ links_to N (length N.links) ++ owns_to l.i }
