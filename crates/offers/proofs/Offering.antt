-- The net that a draft offers, step by step. Assumes nothing.
use Rattle.std.proofs.Common.{◌≡◌, take, None, Err, Result, sym, ap, ◌∙◌, subst}
use Rattle.rules.specs.Rates.{Joined, CutOff, NoRates}
use Rattle.nets.specs.declared.Net.{Net}
use Rattle.nets.specs.declared.sound.SoundNet.{SoundNet}
use Rattle.nets.specs.Views.{of_net, Good}
use Rattle.drafts.specs.declared.stage.NetSizes.{NetSizes}
use Rattle.drafts.specs.declared.tables.Tables.{Tables}
use Rattle.drafts.specs.Checks.{draft_fault, DraftNet}
use Rattle.drafts.specs.Offered.{offered}
use Rattle.drafts.proofs.Offering.{offers}
use Rattle.rates.specs.declared.RateFault.{RateFault}
use Rattle.rates.specs.declared.RateFault.TheVariants as rates
use Rattle.rates.specs.Answer.{Replaced, Told}
use Rattle.offers.specs.declared.refusal.Refusal.{Refusal}
use Rattle.offers.specs.Refusals.{of_rates}
use Rattle.offers.specs.Offers.{unrated, Offer, Offers}

module _ (s : NetSizes) (t : Tables) (M : Net) (e : draft_fault s t ≡ None) (D : DraftNet s t M) where
  unrated_is : of_net M ≡ unrated s t
  unrated_is = offers s t M D (take M.stations M.rates) ∙ (λ x. offered s t (take (D.stations x) (D.unrated x)))

  pub offer : (N : Net) → Joined (of_net M) → Replaced M N → Good N → Offer s t (of_net N)
  offer N j R G =
      let p : of_net N ≡ offered s t (take M.stations N.rates) = R.same ∙ offers s t M D (take M.stations N.rates) in
      record {
        checked = e;
        joined = subst Joined unrated_is j;
        net = p ∙ ap (offered s t) (sym (ap (λ z. z.rates) p));
        rated = R.rated;
        sound = G.sound;
        range = G.range;
      }

  at_fault : (f : RateFault) → Told M (Err f) → Offers s t (Err (of_rates f))
  at_fault (rates.CutOff y) h = (e, subst (λ z. CutOff z y) unrated_is h)
  at_fault rates.NoRates (j, h) = (e, subst Joined unrated_is j, subst NoRates unrated_is h)

  pub no_offer : (f : RateFault) (r : Result SoundNet Refusal) → Told M (Err f) → (y : Refusal) × (r ≡ Err y) × (y ≡ of_rates f) → Offers s t r
  no_offer f r h p = subst (Offers s t) (sym (p.1 ∙ ap Err p.2)) (at_fault f h)
