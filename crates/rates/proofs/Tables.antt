-- A net's tables and the rules' words. Assumes nothing.
use Rattle.std.proofs.Common.{◌≡◌, ℕ, ◌+◌, ◌-◌, ◌<◌, ◌≤◌, List, ◌++◌, length, get_or, take, drop, Some, None, Option, Bool, true, false, ◌↔◌, IsTrue, MatchOption, MatchBool, sym, refl, ap, ◌∙◌, subst, inl, inr, arith}
use lib.ListN.{length-map, get_or-map}
use borrow.Rule.Slice.PartMut.{post_of}
use Rattle.std.specs.List.{All, AllWithin, HoldsAt, flat_map}
use Rattle.std.specs.Option.{option_to_list}
use Rattle.std.proofs.lemmas.Option.{none-some, same_Some}
use Rattle.std.proofs.lemmas.Bool.{cases_lt, false≢true}
use Rattle.std.proofs.lemmas.List.Elements.{All-from_all_within}
use Rattle.std.proofs.lemmas.List.{length-take-le, length-append, length-drop, take_at, drop_at}
use Rattle.rules.specs.Net as rules
use Rattle.rules.specs.Net.{stations, Open}
use Rattle.rules.specs.Ranges.{Checked}
use Rattle.rules.specs.Rates.{Rated, with_rates}
use Rattle.rules.proofs.Soundness.{sound, in_range}
use Rattle.rules.proofs.Tested.{open_below}
use Rattle.nets.specs.declared.Link.{Link}
use Rattle.nets.specs.declared.Net.{Net}
use Rattle.nets.specs.Views.{of_link, of_slot, of_net, Whole, Ranged, Good}
use Rattle.rates.specs.declared.Lead.{Lead}
use Rattle.rates.specs.Reaching.{Balanced, AllBalanced, OnwardBy, Onward}
use Rattle.rates.specs.Answer.{with_table, Replaced}
use Rattle.rates.proofs.Searches.{place_of, of_place}

pub stations_of : (M : Net) → Whole M → stations (of_net M) ≡ M.stations
stations_of M W = length-take-le M.stations M.durations (omega (arith, W.few, W.long))

-- a link that is open stands under its number, and is a link of the program
slot_of : (o : Option Link) (t : rules.Link) → of_slot o ≡ Some t → (l : Link) × (o ≡ Some l) × (of_link l ≡ t)
slot_of None t e = absurd (none-some t e)
slot_of (Some l) t e = (l, refl, same_Some (of_link l) t e)

-- what holds of all links that stand in the table, or of one of them, holds of all that are open, or of one
module _ (M : Net) (P : rules.Link → Type 0) where
  abbrev links : List Link
  links = flat_map option_to_list M.links

  pub all_open : All (λ l. P (of_link l)) links → (k : ℕ) (t : rules.Link) → Open (of_net M) k t → P t
  all_open h k t o =
      let s = slot_of (get_or M.links k None) t (sym (get_or-map of_slot M.links k None) ∙ o) in
      let r = of_place M.links k s.0 s.1 in
      subst P s.2 (subst (λ l. P (of_link l)) (r.2 s.0) (h r.0 s.0 r.1))

  pub all_standing : ((k : ℕ) (t : rules.Link) → Open (of_net M) k t → P t) → All (λ l. P (of_link l)) links
  all_standing h k d i =
      let r = place_of M.links k i in
      subst (λ l. P (of_link l)) (sym (r.3 d)) (h r.0 (of_link r.1) (get_or-map of_slot M.links r.0 None ∙ ap of_slot r.2))

  pub some_open : (k : ℕ) → k < length links → HoldsAt (λ l. P (of_link l)) links k → (j : ℕ) × (t : rules.Link) × Open (of_net M) j t × P t
  some_open k i h =
      let r = place_of M.links k i in
      (r.0, of_link r.1, get_or-map of_slot M.links r.0 None ∙ ap of_slot r.2, subst (λ l. P (of_link l)) (r.3 r.1) (h r.1))

-- what a search through the links found
pub onward_found : (M : Net) (z : List ℕ) (r : Option Lead) → MatchOption r (All (λ l. OnwardBy (of_link l) z None) (flat_map option_to_list M.links)) (λ s. (k : ℕ) × (k < length (flat_map option_to_list M.links)) × HoldsAt (λ l. OnwardBy (of_link l) z (Some s)) (flat_map option_to_list M.links) k) → Onward (of_net M) z r
onward_found M z None h = all_open M (λ t. OnwardBy t z None) h
onward_found M z (Some s) (k, i, h) = some_open M (λ t. OnwardBy t z (Some s)) k i h

pub balanced_found : (M : Net) (z : List ℕ) (r : Bool) → MatchBool r (AllWithin (λ l. Balanced (of_link l) z) (flat_map option_to_list M.links) 0 (length (flat_map option_to_list M.links))) ((k : ℕ) × (k < length (flat_map option_to_list M.links)) × HoldsAt (λ l. Balanced (of_link l) z → ⊥) (flat_map option_to_list M.links) k) → IsTrue r ↔ AllBalanced (of_net M) z
balanced_found M z true h = (λ t. all_open M (λ l. Balanced l z) (All-from_all_within (λ l. Balanced (of_link l) z) (flat_map option_to_list M.links) h), λ e. refl)
balanced_found M z false (k, i, h) = let s = some_open M (λ l. Balanced l z → ⊥) k i h in (λ e. absurd (false≢true e), λ E. absurd (s.3 (E s.0 s.1 s.2)))

-- what stands under a number is what is open there
module _ (M : Net) (k : ℕ) where
  pub open_here : (l : Link) → get_or M.links k None ≡ Some l → Open (of_net M) k (of_link l)
  open_here l e = get_or-map of_slot M.links k None ∙ ap of_slot e

  pub open_is : (l : Link) (t : rules.Link) → get_or M.links k None ≡ Some l → Open (of_net M) k t → of_link l ≡ t
  open_is l t e o = same_Some (of_link l) t (sym (open_here l e) ∙ o)

  pub open_not : (t : rules.Link) → get_or M.links k None ≡ None → Open (of_net M) k t → ⊥
  open_not t e o = none-some t (sym (get_or-map of_slot M.links k None ∙ ap of_slot e) ∙ o)

  -- its ends lie in the tables
  pub ends_in : Ranged M → (l : Link) → get_or M.links k None ≡ Some l → (l.ends.from < 64) × (l.ends.to < 64)
  ends_in R l e =
      let K = R.checked.linked k (of_link l) (open_here l e) in
      let few = R.checked.few in
      (omega (arith, K.from_station), omega (arith, K.to_station))

-- what holds of every open link, looked for under one number after the other
module _ (M : Net) (P : rules.Link → Type 0) (k : ℕ) (before : (i : ℕ) (t : rules.Link) → i < k → Open (of_net M) i t → P t) where
  pub scan_link : (l : Link) → get_or M.links k None ≡ Some l → P (of_link l) → (i : ℕ) (t : rules.Link) → i < k + 1 → Open (of_net M) i t → P t
  scan_link l e p i t h o = elim (cases_lt i k) [
    | inl b ↦ before i t b o
    | inr b ↦ (let q : i ≡ k = omega arith in subst P (open_is M k l t e (subst (λ j. Open (of_net M) j t) q o)) p)
  ]

  pub scan_none : get_or M.links k None ≡ None → (i : ℕ) (t : rules.Link) → i < k + 1 → Open (of_net M) i t → P t
  scan_none e i t h o = elim (cases_lt i k) [
    | inl b ↦ before i t b o
    | inr b ↦ (let q : i ≡ k = omega arith in absurd (open_not M k t e (subst (λ j. Open (of_net M) j t) q o)))
  ]

  pub scan_all : Whole M → 128 ≤ k → (i : ℕ) (t : rules.Link) → Open (of_net M) i t → P t
  scan_all W h i t o = before i t (omega (arith, open_below (of_net M) i t o, length-map M.links of_slot, W.numbered)) o

-- what is asked of a net before it has rates does not ask for rates
checked_with : (N : rules.Net) (Z : List ℕ) → Checked N → Checked (with_rates N Z)
checked_with N Z C = record {
  some = C.some;
  few = C.few;
  numbers = C.numbers;
  lasting = C.lasting;
  share = C.share;
  unit = C.unit;
  linked = λ k l o. (
      let K = C.linked k l o in
      record {
        from_station = K.from_station;
        to_station = K.to_station;
        gives = K.gives;
        arrive = K.arrive;
        takes = K.takes;
        leave = K.leave;
        stock = K.stock;
        room = K.room;
      });
}

-- the net whose rates are the front of z
module _ (M : Net) (R : Ranged M) (z front : List ℕ) (long : length z ≡ 64) (e : front ≡ take (M.stations - 0) z) (rated : Rated (with_rates (of_net M) (take (stations (of_net M)) z))) where
  abbrev table : List ℕ
  table = front ++ post_of 0 (M.stations - 0) M.rates

  all_of : M.stations - 0 ≡ M.stations
  all_of = omega arith

  front_is : front ≡ take M.stations z
  front_is = e ∙ ap (λ k. take k z) all_of

  front_long : length front ≡ M.stations
  front_long = ap length front_is ∙ length-take-le M.stations z (omega (arith, R.whole.few))

  at_front : take M.stations table ≡ take (stations (of_net M)) z
  at_front = take_at front (post_of 0 (M.stations - 0) M.rates) M.stations front_long ∙ front_is ∙ ap (λ n. take n z) (sym (stations_of M R.whole))

  behind : post_of 0 (M.stations - 0) M.rates ≡ drop M.stations M.rates
  behind = ap (λ k. drop k M.rates) all_of

  rated_now : Rated (with_rates (of_net M) (take M.stations table))
  rated_now = subst (λ Z. Rated (with_rates (of_net M) Z)) (sym at_front) rated

  pub replaced_by : Replaced M (with_table M table)
  replaced_by = record {
    only = refl;
    past = drop_at front (post_of 0 (M.stations - 0) M.rates) M.stations front_long ∙ behind;
    same = refl;
    rated = rated_now;
  }

  pub good_by : Good (with_table M table)
  good_by =
      let C = checked_with (of_net M) (take M.stations table) R.checked in
      record {
        whole = record {
          few = R.whole.few;
          long = R.whole.long;
          rated = omega (arith, length-append front (post_of 0 (M.stations - 0) M.rates), ap length behind, length-drop M.stations M.rates, front_long, R.whole.rated, R.whole.few);
          numbered = R.whole.numbered;
        };
        sound = sound (with_rates (of_net M) (take M.stations table)) C rated_now;
        range = in_range (with_rates (of_net M) (take M.stations table)) C rated_now;
      }
