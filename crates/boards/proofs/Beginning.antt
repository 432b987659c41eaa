-- The new board's net is sound, and its station can start at once. Assumes nothing.
use Rattle.std.proofs.Common.{ℕ, zero, suc, ◌*◌, ◌<◌, ◌≤◌, [], ◌∷◌, get_or, refl, arith, lit≤}
use Rattle.rules.specs.Net.{Fits, Sound, start, whole}
use Rattle.rules.specs.Rules.{Least}
use Rattle.rules.proofs.Tested.{sound_tested, keeps_tested, range_tested}
use Rattle.nets.specs.Views.{of_net, Good}
use Rattle.boards.specs.Showing.{new_net}

sound : Sound (of_net new_net)
sound = sound_tested (of_net new_net) tt

pub new_good : Good new_net
new_good = record {
  whole = record { few = lit≤ tt; long = refl; rated = refl; numbered = refl };
  sound = sound;
  range = range_tested (of_net new_net) tt;
}

at_once : Fits (of_net new_net) (whole (0 ∷ []))
at_once = record { scaled = lit≤ tt; complete = refl }

none_earlier : (m y s : ℕ) → y < 1 → m * get_or (0 ∷ []) y 0 ≤ s
none_earlier m zero s h = omega arith
none_earlier m (suc y) s h = omega arith

pub new_least : Least (of_net new_net) (0 ∷ [])
new_least = record {
  fits = at_once;
  keeps = keeps_tested (of_net new_net) sound (whole (0 ∷ [])) at_once tt;
  least = λ T f k y h. none_earlier T.scale y (start T y) h;
}
