-- The program's net, read as the rules have it. Assumes nothing.
use Rattle.std.proofs.Common.{◌≡◌, ℕ, ◌-◌, ◌*◌, ◌/◌, ◌<◌, ◌≤◌, get_or, ℤ, pos, ◌-ℤ◌, neg_ℤ, Some, None, Option, sym, ap, ◌∙◌, mul-le-mul, div-le_self, arith}
use native.Mathlib.Nat.{le_of_dvd}
use lib.ListN.{length-map, get_or-map}
use Rattle.std.proofs.lemmas.List.{length-take, get_or-take}
use Rattle.handover.specs.Gcd.{gcd}
use Rattle.handover.proofs.Gcd.{gcd_is}
use Rattle.handover.proofs.Rates.{gcd_pos}
use Rattle.rules.specs.Net as rules
use Rattle.rules.specs.Net.{stations, duration, rate, Open}
use Rattle.rules.specs.Steps.{Has, forward, back, own, worth, grain, or_else}
use Rattle.rules.proofs.Tested.{open_below}
use Rattle.rules.proofs.Links.{link_is}
use Rattle.handover.proofs.Options.{none_some}
use Rattle.search.specs.declared.Edge.{Edge}
use Rattle.nets.specs.declared.Link.{Link}
use Rattle.nets.specs.declared.Net.{Net}
use Rattle.nets.specs.Views.{of_link, of_slot, of_net, Good}
use Rattle.timing.specs.Edges.{Opens, Placed, Known, unit_of, grain_of, between, loop_at, edge_in_pairs}

slot_none : (o : Option Link) (l : rules.Link) → of_slot o ≡ Some l → o ≡ None → ⊥
slot_none None l e f = none_some l e
slot_none (Some x) l e f = none_some x (sym f)

pub opened : (N : Net) (k : ℕ) (l : Link) → get_or N.links k None ≡ Some l → Open (of_net N) k (of_link l)
opened N k l e = get_or-map of_slot N.links k None ∙ ap of_slot e

pub closed : (N : Net) (k : ℕ) → get_or N.links k None ≡ None → get_or (of_net N).links k None ≡ None
closed N k e = get_or-map of_slot N.links k None ∙ ap of_slot e

module _ (N : Net) (k : ℕ) (o : Opens (of_net N) k) where
  pub below : Good N → k < 128
  below G = omega (arith, open_below (of_net N) k o.0 o.1, length-map N.links of_slot, G.whole.numbered)

  pub not_none : get_or N.links k None ≡ None → ⊥
  not_none e = slot_none (get_or N.links k None) o.0 (sym (get_or-map of_slot N.links k None) ∙ o.1) e

-- a step back has a capacity
pub has_capacity : (N : Net) (k : ℕ) (l : Link) → Open (of_net N) k (of_link l) → Has (of_net N) (back k) → l.terms.capacity ≡ None → ⊥
has_capacity N k l o (m, c, p, f) e =
    let q : m ≡ of_link l = cc in
    none_some c (sym e ∙ ap (λ z. z.c) (sym q) ∙ f)

pub station : (N : Net) (i : ℕ) → i < stations (of_net N) → i < N.stations
station N i h = omega (arith, length-take N.stations N.durations)

pub stations_are : (N : Net) → Good N → stations (of_net N) ≡ N.stations
stations_are N G = omega (arith, length-take N.stations N.durations, G.whole.long, G.whole.few)

pub rate_read : (N : Net) (i : ℕ) → i < N.stations → rate (of_net N) i ≡ get_or N.rates i 0
rate_read N i h = get_or-take N.stations N.rates i 0 h

pub duration_read : (N : Net) (i : ℕ) → i < N.stations → duration (of_net N) i ≡ get_or N.durations i 0
duration_read N i h = get_or-take N.stations N.durations i 0 h

pub placed : (N : Net) (i : ℕ) → Good N → i < stations (of_net N) → Placed N i
placed N i G h =
    let k = station N i h in
    record {
      inside = omega (arith, G.whole.few);
      rate = omega (arith, rate_read N i k, G.range.recurring i h);
      lasts = omega (arith, duration_read N i k, G.range.lasting i h);
    }

worth_small : (n g d : ℕ) → n ≤ 10_000 → d ≤ 10_000 → n / g * d ≤ 100_000_000
worth_small n g d hn hd =
    let q : n / g ≤ 10_000 = omega (arith, div-le_self n g) in
    let p : n / g * d ≤ 10_000 * 10_000 = mul-le-mul q hd in
    omega arith

module _ (N : Net) (k : ℕ) (l : Link) (G : Good N) (o : Open (of_net N) k (of_link l)) where
  known : (parts : ℕ) → parts ≤ 10_000 → Known N l parts
  known parts h =
      let K = G.sound.linked k (of_link l) o in
      let from = placed N l.ends.from G K.from_station in
      let small : grain_of N l ≤ get_or N.rates l.ends.from 0 =
      le_of_dvd (omega (arith, rate_read N l.ends.from (station N l.ends.from K.from_station), G.sound.recurring l.ends.from K.from_station))
      (gcd_is (get_or N.rates l.ends.from 0) (get_or N.rates l.ends.to 0)).left in
      record {
        from = from;
        to = placed N l.ends.to G K.to_station;
        some = gcd_pos l.terms.produced l.terms.consumed K.gives;
        grain = omega (arith, from.rate);
        value = worth_small parts (unit_of l) (grain_of N l) h (omega (arith, from.rate));
      }

  pub known_forward : Known N l l.terms.stock
  known_forward = known l.terms.stock (G.range.linked k (of_link l) o).stock

  pub has_room : (c : ℕ) → l.terms.capacity ≡ Some c → l.terms.stock ≤ c
  has_room c f = (G.sound.linked k (of_link l) o).room c f

  pub known_back : (c : ℕ) → l.terms.capacity ≡ Some c → Known N l (c - l.terms.stock)
  known_back c f = known (c - l.terms.stock) (omega (arith, (G.range.linked k (of_link l) o).room c f))

  from_in : l.ends.from < N.stations
  from_in = station N l.ends.from (G.sound.linked k (of_link l) o).from_station

  to_in : l.ends.to < N.stations
  to_in = station N l.ends.to (G.sound.linked k (of_link l) o).to_station

  grain_is : grain_of N l ≡ grain (of_net N) (of_link l)
  grain_is =
      let p = rate_read N l.ends.from from_in in
      let q = rate_read N l.ends.to to_in in
      λ x. gcd (sym p x) (sym q x)

  -- the link's edge, as the rules have it
  abbrev by_link : ℕ → ℕ → ℕ → Edge (ℤ × ℤ)
  by_link parts x y = record { from = x; to = y; length = (pos (rate (of_net N) y) -ℤ pos (worth (of_net N) (of_link l) parts) -ℤ pos (grain (of_net N) (of_link l)), pos (duration (of_net N) x)) }

  between_is : (parts x y : ℕ) → x < N.stations → y < N.stations → between N x y (parts / unit_of l * grain_of N l) (grain_of N l) ≡ by_link parts x y
  between_is parts x y hx hy =
      let r = rate_read N y hy in
      let d = duration_read N x hx in
      let g = grain_is in
      λ t. record { from = x; to = y; length = (pos (sym r t) -ℤ pos (parts / unit_of l * g t) -ℤ pos (g t), pos (sym d t)) }

  pub forward_is : between N l.ends.from l.ends.to (l.terms.stock / unit_of l * grain_of N l) (grain_of N l) ≡ edge_in_pairs (of_net N) (forward k)
  forward_is =
      between_is l.terms.stock l.ends.from l.ends.to from_in to_in
      ∙ sym (ap (λ z. record { from = z.i; to = z.j; length = (pos (rate (of_net N) z.j) -ℤ pos (worth (of_net N) z z.u) -ℤ pos (grain (of_net N) z), pos (duration (of_net N) z.i)) }) (link_is (of_net N) k (of_link l) o))

  pub back_is : (c : ℕ) → l.terms.capacity ≡ Some c → between N l.ends.to l.ends.from ((c - l.terms.stock) / unit_of l * grain_of N l) (grain_of N l) ≡ edge_in_pairs (of_net N) (back k)
  back_is c f =
      between_is (c - l.terms.stock) l.ends.to l.ends.from to_in from_in
      ∙ sym (ap (λ z. by_link (or_else 0 z - l.terms.stock) l.ends.to l.ends.from) f)
      ∙ sym (ap (λ z. record { from = z.j; to = z.i; length = (pos (rate (of_net N) z.i) -ℤ pos (worth (of_net N) z (or_else 0 z.c - z.u)) -ℤ pos (grain (of_net N) z), pos (duration (of_net N) z.j)) }) (link_is (of_net N) k (of_link l) o))

pub own_is : (N : Net) (i : ℕ) → i < stations (of_net N) → loop_at N i ≡ edge_in_pairs (of_net N) (own i)
own_is N i h =
    let r = rate_read N i (station N i h) in
    let d = duration_read N i (station N i h) in
    λ t. record { from = i; to = i; length = (neg_ℤ (pos (sym r t)), pos (sym d t)) }
