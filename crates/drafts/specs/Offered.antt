-- The net that a draft offers, as the rules have it. Assumes nothing.
use Rattle.std.specs.Prelude.{ℕ, List, map, take}
use Rattle.std.specs.List.{range_with_len}
use Rattle.rules.specs.Net.{Net}
use Rattle.nets.specs.Views.{of_slot}
use Rattle.drafts.specs.declared.stage.NetSizes.{NetSizes}
use Rattle.drafts.specs.declared.tables.Tables.{Tables}
use Rattle.drafts.specs.Checks.{entry_slot}

-- Its durations and its pace, with the rates Z, and under each of the 128 numbers the link of that entry, if there is one.
abbrev pub offered : NetSizes → Tables → List ℕ → Net
offered s t Z = record {
  durations = take s.stations t.durations;
  rates = Z;
  A = s.pace.share;
  B = s.pace.unit;
  links = map (λ k. of_slot (entry_slot s.links t.ends t.terms k)) (range_with_len 0 128);
}
