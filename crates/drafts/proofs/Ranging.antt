-- A draft none of whose entries fails makes a net that is in range. Assumes nothing.
use Rattle.std.proofs.Common.{◌≡◌, ℕ, ◌+◌, ◌<◌, ◌≤◌, Bool, true, false, cond, ltb, List, length, get_or, take, replicate, Some, None, Option, sym, refl, ap, ◌∙◌, subst, inl, inr, arith}
use lib.ListN.{length-map, get_or-map}
use Rattle.std.proofs.lemmas.List.{length-take-le, get_or-take, get_or-replicate, get_or_past}
use Rattle.std.proofs.lemmas.Bool.Decides.{nat_tests}
use Rattle.std.proofs.lemmas.Bool.{cases_lt, ltb-true}
use Rattle.handover.proofs.Options.{none_some, some_same}
use Rattle.rules.specs.Net as rules
use Rattle.rules.specs.Ranges.{CheckedLink}
use Rattle.nets.specs.declared.LinkEnds.{LinkEnds}
use Rattle.nets.specs.declared.LinkTerms.{LinkTerms}
use Rattle.nets.specs.declared.Link.{Link}
use Rattle.nets.specs.declared.Net.{Net}
use Rattle.nets.specs.Views.{of_link, of_slot, of_net, Ranged}
use Rattle.drafts.specs.declared.stage.NetSizes.{NetSizes}
use Rattle.drafts.specs.declared.fault.DraftFault.{DraftFault}
use Rattle.drafts.specs.declared.fault.DraftFault.TheVariants.{Capacity}
use Rattle.drafts.specs.Faults.{or_else, fault_if, range_fault, station_fault}
use Rattle.drafts.specs.Entries.{sizes_fault, duration_fault, ends_fault, terms_fault, capacity_fault, below_stock, room_fault}
use Rattle.drafts.specs.Checks.{durations_fault, all_ends_fault, all_terms_fault, rooms_fault, entry_slot, entry_link, no_ends, no_terms}
use Rattle.drafts.proofs.Firsts.{or_none, none_fails}

none_there : (k : ℕ) → get_or {A = Option Link} (replicate 128 None) k None ≡ None
none_there k =
    elim (cases_lt k 128) [
      | inl h ↦ get_or-replicate 128 k None None h
      | inr h ↦ get_or_past (replicate 128 None) k None (omega arith)
    ]

none_open : (k : ℕ) (es : List LinkEnds) (ts : List LinkTerms) → None ≡ entry_slot 0 es ts k
none_open k es ts = grind (arith, nat_tests)

pub no_slots : (k : ℕ) (es : List LinkEnds) (ts : List LinkTerms) → get_or (replicate 128 None) k None ≡ entry_slot 0 es ts k
no_slots k es ts = none_there k ∙ none_open k es ts

inside : (which low high v : ℕ) → range_fault which low high v ≡ None → (low ≤ v) × (v ≤ high)
inside which low high v e = grind (arith, nat_tests)

station : (which n v : ℕ) → station_fault which n v ≡ None → v < n
station which n v e = grind (arith, nat_tests)

covered : (link u c : ℕ) → fault_if (ltb c u) (Capacity link) ≡ None → u ≤ c
covered link u c e = grind (arith, nat_tests)

none_of_four : (a b c d : Option DraftFault) → or_else a (or_else b (or_else c d)) ≡ None → (a ≡ None) × (b ≡ None) × (c ≡ None) × (d ≡ None)
none_of_four a b c d e =
    let p = or_none a (or_else b (or_else c d)) e in
    let q = or_none b (or_else c d) p.1 in
    let r = or_none c d q.1 in
    (p.0, q.0, r.0, r.1)

-- the sizes, and the terms of a link, number after number
sizes_none : (s : NetSizes) → sizes_fault s ≡ None →
    (range_fault 1 1 64 s.stations ≡ None) × (range_fault 2 0 128 s.links ≡ None) × (range_fault 3 1 1_000_000 s.pace.share ≡ None) × (range_fault 4 1 10_000_000_000 s.pace.unit ≡ None)
sizes_none s e = none_of_four (range_fault 1 1 64 s.stations) (range_fault 2 0 128 s.links) (range_fault 3 1 1_000_000 s.pace.share) (range_fault 4 1 10_000_000_000 s.pace.unit) e

terms_none : (t : LinkTerms) → terms_fault t ≡ None →
    (range_fault 1 1 1_000 t.produced ≡ None) × (range_fault 2 1 1_000 t.consumed ≡ None) × (range_fault 3 0 10_000 t.stock ≡ None) × (capacity_fault t.capacity ≡ None)
terms_none t e = none_of_four (range_fault 1 1 1_000 t.produced) (range_fault 2 1 1_000 t.consumed) (range_fault 3 0 10_000 t.stock) (capacity_fault t.capacity) e

-- the links that a draft opens
slot_link : (b : Bool) (x : Link) (l : rules.Link) → of_slot (cond b (Some x) None) ≡ Some l → (b ≡ true) × (of_link x ≡ l)
slot_link true x l e = (refl, some_same (of_link x) l e)
slot_link false x l e = absurd (none_some l e)

-- a capacity in range that covers the stock
roomy : (o : Option ℕ) (link u : ℕ) → capacity_fault o ≡ None → below_stock link u o ≡ None → (c : ℕ) → o ≡ Some c → (c ≤ 10_000) × (u ≤ c)
roomy None link u f g c e = absurd (none_some c e)
roomy (Some d) link u f g c e =
    let same = some_same d c e in
    let h = inside 4 0 10_000 d f in
    let k = covered link u d g in
    (omega (arith, h.1), omega (arith, k))

module _ (s : NetSizes) (ds : List ℕ) (es : List LinkEnds) (ts : List LinkTerms) (zs : List ℕ) (ls : List (Option Link))
    (sized : sizes_fault s ≡ None)
    (lasting : durations_fault (take s.stations ds) ≡ None)
    (ended : all_ends_fault s.stations (take s.links es) ≡ None)
    (termed : all_terms_fault (take s.links ts) ≡ None)
    (roomed : rooms_fault (take s.links ts) ≡ None)
    (ds_long : length ds ≡ 64) (es_long : length es ≡ 128) (ts_long : length ts ≡ 128) (zs_long : length zs ≡ 64) (ls_long : length ls ≡ 128)
    (slots : (k : ℕ) → get_or ls k None ≡ entry_slot s.links es ts k) where
  abbrev N : Net
  N = record { stations = s.stations; durations = ds; rates = zs; links = ls; pace = s.pace }

  pub stations_in : (1 ≤ s.stations) × (s.stations ≤ 64)
  stations_in = inside 1 1 64 s.stations (sizes_none s sized).0

  links_in : s.links ≤ 128
  links_in = (inside 2 0 128 s.links (sizes_none s sized).1).1

  share_in : (1 ≤ s.pace.share) × (s.pace.share ≤ 1_000_000)
  share_in = inside 3 1 1_000_000 s.pace.share (sizes_none s sized).2

  unit_in : (1 ≤ s.pace.unit) × (s.pace.unit ≤ 10_000_000_000)
  unit_in = inside 4 1 10_000_000_000 s.pace.unit (sizes_none s sized).3

  stations_are : rules.stations (of_net N) ≡ s.stations
  stations_are = length-take-le s.stations ds (omega (arith, stations_in.1))

  linked : (k : ℕ) → k < s.links → CheckedLink (of_net N) (of_link (entry_link es ts k))
  linked k h =
      let here = links_in in
      let e : ends_fault s.stations (get_or es k no_ends) ≡ None =
      subst (λ z. ends_fault s.stations z ≡ None) (get_or-take s.links es k no_ends h)
      (none_fails (λ i x. ends_fault s.stations x) 0 (take s.links es) ended k no_ends (omega (arith, length-take-le s.links es (omega arith)))) in
      let t : terms_fault (get_or ts k no_terms) ≡ None =
      subst (λ z. terms_fault z ≡ None) (get_or-take s.links ts k no_terms h)
      (none_fails (λ i x. terms_fault x) 0 (take s.links ts) termed k no_terms (omega (arith, length-take-le s.links ts (omega arith)))) in
      let r : room_fault (0 + k) (get_or ts k no_terms) ≡ None =
      subst (λ z. room_fault (0 + k) z ≡ None) (get_or-take s.links ts k no_terms h)
      (none_fails room_fault 0 (take s.links ts) roomed k no_terms (omega (arith, length-take-le s.links ts (omega arith)))) in
      let each = terms_none (get_or ts k no_terms) t in
      let both = or_none (station_fault 1 s.stations (get_or es k no_ends).from) (station_fault 2 s.stations (get_or es k no_ends).to) e in
      let made = inside 1 1 1_000 (get_or ts k no_terms).produced each.0 in
      let taken = inside 2 1 1_000 (get_or ts k no_terms).consumed each.1 in
      let stock = inside 3 0 10_000 (get_or ts k no_terms).stock each.2 in
      record {
        from_station = omega (arith, station 1 s.stations (get_or es k no_ends).from both.0, stations_are);
        to_station = omega (arith, station 2 s.stations (get_or es k no_ends).to both.1, stations_are);
        gives = made.0;
        arrive = made.1;
        takes = taken.0;
        leave = taken.1;
        stock = stock.1;
        room = roomy (get_or ts k no_terms).capacity (0 + k) (get_or ts k no_terms).stock each.3 r;
      }

  pub ranged : Ranged N
  ranged = record {
    whole = record { few = stations_in.1; long = ds_long; rated = zs_long; numbered = ls_long };
    checked = record {
      some = omega (arith, stations_are, stations_in.0);
      few = omega (arith, stations_are, stations_in.1);
      numbers = omega (arith, length-map ls of_slot);
      lasting = λ i h. inside 1 1 10_000 (get_or (take s.stations ds) i 0) (none_fails (λ k d. duration_fault d) 0 (take s.stations ds) lasting i 0 h);
      share = share_in;
      unit = unit_in;
      linked = λ k l o. (
          let p = slot_link (ltb k s.links) (entry_link es ts k) l (sym (ap of_slot (slots k)) ∙ sym (get_or-map of_slot ls k None) ∙ o) in
          subst (CheckedLink (of_net N)) p.1 (linked k (ltb-true k s.links p.0)));
    };
  }
