-- What a board shows. Assumes nothing.
use Rattle.std.specs.Prelude.{ℕ, ◌*◌, List, map, replicate, None, slice_set}
use Rattle.rules.specs.Net as rules
use Rattle.nets.specs.declared.Net.{Net}

-- The net of a new board: one station of duration 1 and rate 1, no link, pace 1/1.
abbrev pub new_net : Net
new_net = record {
  stations = 1;
  durations = slice_set (replicate 64 0) 0 1;
  rates = slice_set (replicate 64 0) 0 1;
  links = replicate 128 None;
  pace = record { share = 1; unit = 1 };
}

-- The periods of the stations: A ticks for each share of their rates.
abbrev pub periods_of : rules.Net → List ℕ
periods_of N = map (λ z. N.A * z) N.rates
