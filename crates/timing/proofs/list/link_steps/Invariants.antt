use Rattle.std.proofs.Common.{◌≡◌, ◌*◌, ◌≤◌, map}
use Rattle.arrayvec.specs.ArrayVec.{array_vec_len}
use Rattle.nets.specs.Views.{of_net, of_step}
use Rattle.timing.specs.Listing.{links_to}
use Rattle.timing.proofs.list.link_steps.Given as goal

abbrev pub invariant-loop-k : goal.invariant-loop-k
invariant-loop-k l = record { few : array_vec_len l.list ≤ 2 * l.k; links : map of_step l.list.items ≡ links_to (of_net l.net.net) l.k }
