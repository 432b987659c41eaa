-- What a draft offers, as the ledger has it of a load. Assumes nothing.
use Rattle.std.proofs.Common.{◌≡◌, ℕ, ◌<◌, ◌≤◌, Bool, cond, ltb, List, [], map, get_or, take, Some, None, Option, sym, refl, ap, ◌∙◌, subst, inl, inr, arith}
use Rattle.std.specs.List.{range_with_len}
use Rattle.std.proofs.lemmas.List.FromFn.{fill_by_all}
use Rattle.std.proofs.lemmas.List.{length-take-le, get_or-take}
use Rattle.std.proofs.lemmas.Bool.{cases_lt, lt-ltb, le-ltb}
use Rattle.handover.proofs.Options.{none_some, some_same}
use Rattle.rules.specs.Net as rules
use Rattle.rules.specs.Net.{Net, stations}
use Rattle.rules.specs.Rates.{Leads, stay, on, Joined, CutOff as Cut, Rated, NoRates as Unrated}
use Rattle.nets.specs.Views.{of_parts, of_slot}
use Rattle.drafts.specs.declared.fault.DraftFault.{DraftFault}
use Rattle.drafts.specs.declared.fault.DraftFault.TheVariants.{Range, Missing, PastSize, Capacity}
use Rattle.drafts.specs.declared.stage.NetSizes.{NetSizes}
use Rattle.drafts.specs.declared.tables.Tables.{Tables}
use Rattle.drafts.specs.Faults.{or_else, told_of}
use Rattle.drafts.specs.Checks.{draft_fault, entry_slot, no_ends, no_terms, WholeTables}
use Rattle.drafts.specs.Offered.{offered}
use Rattle.texts.specs.NetText.{Entries}
use Rattle.texts.specs.Outcomes.{entries_of}
use Rattle.ledger.specs.Calls.{Source, Call, load, at, nowhere}
use Rattle.ledger.specs.States.{entry_link, net_of, unrated, Gives, After}
use Rattle.ledger.specs.Ranges.{Number, draft_numbers, sizes_numbers}
use Rattle.ledger.specs.Checks.{Refusal, out_of_range, too_full, cut_off, no_rates, number_of, own_checks, MakesFull}
use Rattle.ledger.specs.Runs.{Passes, AllPass, FirstFails}
use Rattle.ledger.proofs.Numbers.{AllIn, ranges_pass, both_in}
use Rattle.ledger.proofs.Passing.{load_roomy, joined_pass, rated_pass}
use Rattle.ledger.proofs.Reading.{gives_one}
use Rattle.offers.specs.Offers as offers
use Rattle.offers.specs.Offers.{Offer, Offers}
use Rattle.offers.proofs.Judging.{Tells, Full, Rooms, numbers_fault, full_fault, numbers_told, rooms_told, parts, terms_many}

-- Links lead where they led, whatever the rates are
leads_on : (N M : Net) → N.links ≡ M.links → (x y : ℕ) → Leads N x y → Leads M x y
leads_on N M e x y (stay h) = stay h
leads_on N M e x y (on z k l h o j) = on z k l (leads_on N M e x z h) (subst (λ ls. get_or ls k None ≡ Some l) e o) j

joined_on : (N M : Net) → N.links ≡ M.links → stations N ≡ stations M → Joined N → Joined M
joined_on N M e s j y h = leads_on N M e 0 y (j y (omega arith))

cut_on : (N M : Net) (y : ℕ) → N.links ≡ M.links → stations N ≡ stations M → Cut N y → Cut M y
cut_on N M y e s C = record {
  station = omega (arith, C.station);
  apart = λ h. C.apart (leads_on M N (sym e) 0 y h);
  lowest = λ x h. leads_on N M e 0 x (C.lowest x h);
}

module _ (s : NetSizes) (t : Tables) (W : WholeTables t) where
  abbrev drafted : Entries
  drafted = entries_of s t

  -- All is fine where there is no fault

  fine_by : (o p : Option DraftFault) (ns : List Number) → Tells o ns → or_else o p ≡ None → AllIn ns × (p ≡ None)
  fine_by None p ns a e = (a, e)
  fine_by (Some f) p ns a e = absurd (none_some f (sym e))

  module _ (fine : draft_fault s t ≡ None) where
    both : AllIn (draft_numbers drafted) × (full_fault s t W ≡ None)
    both = fine_by (numbers_fault s t W) (full_fault s t W) (draft_numbers drafted) (numbers_told s t W).tells (sym (parts s t W) ∙ fine)

    ranged : AllIn (draft_numbers drafted)
    ranged = both.0

    sized : AllIn (sizes_numbers drafted)
    sized = (both_in (sizes_numbers drafted) _ ranged).0

    roomy : (k : ℕ) → k < s.links → (room : ℕ) → (entry_link drafted k).c ≡ Some room → (entry_link drafted k).u ≤ room
    roomy k h room q =
        let none = subst (Rooms 0 (take s.links t.terms)) both.1 (rooms_told s t W) in
        elim (cases_lt room (entry_link drafted k).u) [
          | inl less ↦ absurd (none k (omega (arith, terms_many s t W sized)) (room, q, less))
          | inr fits ↦ fits
        ]

    -- The net is the same
    slot_is : (k : ℕ) → of_slot (entry_slot s.links t.ends t.terms k) ≡ cond (ltb k s.links) (Some (entry_link drafted k)) None
    slot_is k =
        let here : Bool → Option rules.Link = λ b. of_slot (cond b (Some (record { ends = get_or t.ends k no_ends; terms = get_or t.terms k no_terms })) None) in
        let there : Bool → Option rules.Link = λ b. cond b (Some (entry_link drafted k)) None in
        elim (cases_lt k s.links) [
          | inl h ↦
              (let p = sym (get_or-take s.links t.ends k no_ends h) in
              let q = sym (get_or-take s.links t.terms k no_terms h) in
              ap here (lt-ltb k s.links h) ∙ (λ x. Some (of_parts (p x) (q x))) ∙ sym (ap there (lt-ltb k s.links h)))
          | inr h ↦ ap here (le-ltb k s.links h) ∙ sym (ap there (le-ltb k s.links h))
        ]

    lasting_is : take s.stations t.durations ≡ map (λ k. get_or (take s.stations t.durations) k 0) (range_with_len 0 s.stations)
    lasting_is =
        fill_by_all (λ k. get_or (take s.stations t.durations) k 0) (take s.stations t.durations) s.stations 0
        (length-take-le s.stations t.durations (omega (arith, sized.0.1, W.durations))) (λ k h. refl)

    offered_is : (Z : List ℕ) → offered s t Z ≡ net_of drafted Z
    offered_is Z = λ x. record {
      durations = lasting_is x;
      rates = Z;
      A = s.pace.share;
      B = s.pace.unit;
      links = map (λ k. slot_is k x) (range_with_len 0 128);
    }

    links_are : (offers.unrated s t).links ≡ (unrated drafted).links
    links_are = ap (λ N. N.links) (offered_is [])

    stations_are : stations (offers.unrated s t) ≡ stations (unrated drafted)
    stations_are = ap stations (offered_is [])

  -- How a load of its entries is judged
  module _ (L : Net) (src : Source) (n : ℕ) (G : Gives src drafted) where
    abbrev loading : Call
    loading = load src n

    range_passes : AllIn (draft_numbers drafted) → Passes L loading out_of_range
    range_passes a = ranges_pass L loading (draft_numbers drafted) (drafted, G, refl) a

    full : (k : ℕ) → MakesFull L loading k → (k < s.links) × Full (get_or (take s.links t.terms) k no_terms)
    full k (l, room, (e, g, h, q), c, less) =
        let same = gives_one src e drafted g G in
        let r : l ≡ entry_link drafted k = q ∙ ap (λ z. entry_link z k) same in
        (subst (λ z. k < z.sizes.links) same h, (room, ap (λ z. z.c) (sym r) ∙ c, subst (λ z. room < z.u) r less))

    -- An entry at fault
    faulty_by : (o p : Option DraftFault) → Tells o (draft_numbers drafted) → Rooms 0 (take s.links t.terms) p → (AllIn (draft_numbers drafted) → AllIn (sizes_numbers drafted)) →
        (f : DraftFault) → or_else o p ≡ Some f → (r : Refusal) × FirstFails L loading (own_checks loading) r (at (told_of f).1) × (number_of r ≡ (told_of f).0)
    faulty_by None p a R small (Capacity k) e =
        let (i, q, h, F, none) = subst (Rooms 0 (take s.links t.terms)) e R in
        let j : i ≡ k = omega arith in
        let there : k < s.links = omega (arith, terms_many s t W (small a)) in
        let F' = subst (λ z. Full (get_or (take s.links t.terms) z no_terms)) j F in (
          too_full,
          inr (
            range_passes a,
            inl (
              refl,
              (
                k,
                record {
                  holds = (entry_link drafted k, F'.0, (drafted, G, there, refl), F'.1, F'.2);
                  none_below = λ h l m. none h (omega arith) (full h m).1;
                },
                refl,
              ),
            ),
          ),
          refl,
        )
    faulty_by None p a R small (Range w) e = absurd (subst (Rooms 0 (take s.links t.terms)) e R)
    faulty_by None p a R small (Missing h) e = absurd (subst (Rooms 0 (take s.links t.terms)) e R)
    faulty_by None p a R small (PastSize h) e = absurd (subst (Rooms 0 (take s.links t.terms)) e R)
    faulty_by (Some (Range w)) p a R small f e =
        subst (λ z. (r : Refusal) × FirstFails L loading (own_checks loading) r (at (told_of z).1) × (number_of r ≡ (told_of z).0)) (some_same (Range w) f e)
        (out_of_range, inl (refl, (draft_numbers drafted, w, (drafted, G, refl), a, refl)), refl)
    faulty_by (Some (Missing h)) p a R small f e = absurd a
    faulty_by (Some (PastSize h)) p a R small f e = absurd a
    faulty_by (Some (Capacity h)) p a R small f e = absurd a

    pub faulty : (f : DraftFault) → draft_fault s t ≡ Some f → (r : Refusal) × FirstFails L loading (own_checks loading) r (at (told_of f).1) × (number_of r ≡ (told_of f).0)
    faulty f e =
        faulty_by (numbers_fault s t W) (full_fault s t W) (numbers_told s t W).tells (rooms_told s t W)
        (λ a. (both_in (sizes_numbers drafted) _ a).0) f (sym (parts s t W) ∙ e)

    module _ (fine : draft_fault s t ≡ None) where
      range_pass : Passes L loading out_of_range
      range_pass = range_passes (ranged fine)

      full_pass : Passes L loading too_full
      full_pass = load_roomy L src n drafted G (roomy fine)

      -- A net that is not joined, or without rates
      pub cut : (y : ℕ) → Cut (offers.unrated s t) y → FirstFails L loading (own_checks loading) cut_off (at y)
      cut y C = inr (range_pass, inr (full_pass, inl (refl, (drafted, y, G, cut_on (offers.unrated s t) (unrated drafted) y (links_are fine) (stations_are fine) C, refl))))

      join_pass : Joined (offers.unrated s t) → Passes L loading cut_off
      join_pass J = joined_pass L loading drafted G (joined_on (offers.unrated s t) (unrated drafted) (links_are fine) (stations_are fine) J)

      pub rateless : Joined (offers.unrated s t) → Unrated (offers.unrated s t) → FirstFails L loading (own_checks loading) no_rates nowhere
      rateless J U = inr (range_pass, inr (full_pass, inr (join_pass J, inl (refl, (drafted, G, (λ Z R. U Z (subst Rated (sym (offered_is fine Z)) R)), refl)))))

      -- A net with its rates
      pub fit : (N : Net) → Offer s t N → AllPass L loading (own_checks loading) × After L loading N
      fit N O =
          let e : N ≡ net_of drafted N.rates = O.net ∙ offered_is fine N.rates in
          let R = subst Rated e O.rated in
          ((range_pass, (full_pass, (join_pass O.joined, (rated_pass L loading drafted N.rates G R, tt)))), (drafted, N.rates, G, R, e))
