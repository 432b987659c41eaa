-- The net of a checked draft is the one that the draft offers. Assumes nothing.
use Rattle.std.proofs.Common.{◌≡◌, ℕ, List, map, take, None, ap, ◌∙◌}
use lib.ListN.{length-map, get_or-map}
use Rattle.std.specs.List.{range_with_len}
use Rattle.std.proofs.lemmas.List.FromFn.{fill_by_all}
use Rattle.rules.specs.Rates.{with_rates}
use Rattle.nets.specs.declared.Net.{Net}
use Rattle.nets.specs.Views.{of_slot, of_net}
use Rattle.drafts.specs.declared.stage.NetSizes.{NetSizes}
use Rattle.drafts.specs.declared.tables.Tables.{Tables}
use Rattle.drafts.specs.Checks.{entry_slot, DraftNet}
use Rattle.drafts.specs.Offered.{offered}

module _ (s : NetSizes) (t : Tables) (N : Net) (D : DraftNet s t N) where
  links : map of_slot N.links ≡ map (λ k. of_slot (entry_slot s.links t.ends t.terms k)) (range_with_len 0 128)
  links =
      fill_by_all (λ k. of_slot (entry_slot s.links t.ends t.terms k)) (map of_slot N.links) 128 None
      (length-map N.links of_slot ∙ D.numbers) (λ k h. get_or-map of_slot N.links k None ∙ ap of_slot (D.links k))

  pub offers : (Z : List ℕ) → with_rates (of_net N) Z ≡ offered s t Z
  offers Z = λ x. record {
    durations = take (D.stations x) (D.durations x);
    rates = Z;
    A = (D.pace x).share;
    B = (D.pace x).unit;
    links = links x;
  }
