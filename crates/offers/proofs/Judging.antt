-- The faults of a draft are those that the ledger tells of its entries. Assumes nothing.
use Rattle.std.proofs.Common.{◌≡◌, ℕ, zero, suc, ◌+◌, ◌<◌, ◌≤◌, Bool, true, false, cond, ltb, leb, List, [], ◌∷◌, ◌++◌, map, length, get_or, take, Some, None, Option, sym, refl, ap, ◌∙◌, subst, inl, inr, arith}
use Rattle.std.specs.List.{range_with_len, flat_map}
use Rattle.std.proofs.lemmas.List.{length-take-le}
use Rattle.std.proofs.lemmas.Bool.{or_cases, or_parts, ltb-true, ltb-false, leb-true, leb-false}
use Rattle.handover.proofs.Options.{none_some, some_same}
use Rattle.nets.specs.declared.LinkTerms.{LinkTerms}
use Rattle.drafts.specs.declared.fault.DraftFault.{DraftFault}
use Rattle.drafts.specs.declared.fault.DraftFault.TheVariants.{Range, Missing, PastSize, Capacity}
use Rattle.drafts.specs.declared.stage.NetSizes.{NetSizes}
use Rattle.drafts.specs.declared.tables.Tables.{Tables}
use Rattle.drafts.specs.Faults.{or_else, outside, range_fault, station_fault}
use Rattle.drafts.specs.Entries.{sizes_fault, duration_fault, ends_fault, terms_fault, capacity_fault, below_stock, room_fault}
use Rattle.drafts.specs.Checks.{first_fault, durations_fault, all_ends_fault, all_terms_fault, rooms_fault, draft_fault, no_ends, no_terms, WholeTables}
use Rattle.texts.specs.Outcomes.{entries_of}
use Rattle.ledger.specs.Ranges.{Number, Out, FirstOut, a_station, a_duration, a_capacity, sizes_numbers, ends_numbers, terms_numbers, draft_numbers}
use Rattle.ledger.proofs.Numbers.{Within, AllIn}

-- A number that is in range is not out of it
not_out : (n : Number) → Within n → Out n → ⊥
not_out n (a, b) (inl h) = omega arith
not_out n (a, b) (inr h) = omega arith

all_both : (xs ys : List Number) → AllIn xs → AllIn ys → AllIn (xs ++ ys)
all_both [] ys a b = b
all_both (x ∷ xs) ys (h, a) b = (h, all_both xs ys a b)

out_before : (xs ys : List Number) (w : ℕ) → FirstOut xs w → FirstOut (xs ++ ys) w
out_before [] ys w f = absurd f
out_before (x ∷ xs) ys w (inl f) = inl f
out_before (x ∷ xs) ys w (inr (h, f)) = inr (h, out_before xs ys w f)

out_behind : (xs ys : List Number) (w : ℕ) → AllIn xs → FirstOut ys w → FirstOut (xs ++ ys) w
out_behind [] ys w a f = f
out_behind (x ∷ xs) ys w (h, a) f = inr (not_out x h, out_behind xs ys w a f)

-- The fault tells the first of the numbers that is out of range; where there is none, all are in range
abbrev pub Tells : Option DraftFault → List Number → Type 0
Tells None ns = AllIn ns
Tells (Some (Range w)) ns = FirstOut ns w
Tells (Some (Missing h)) ns = ⊥
Tells (Some (PastSize s)) ns = ⊥
Tells (Some (Capacity k)) ns = ⊥

pub record Judges (o : Option DraftFault) (ns : List Number) : Type 0 where
  pub tells : Tells o ns

behind : (o : Option DraftFault) (xs ys : List Number) → AllIn xs → Tells o ys → Tells o (xs ++ ys)
behind None xs ys a t = all_both xs ys a t
behind (Some (Range w)) xs ys a t = out_behind xs ys w a t
behind (Some (Missing h)) xs ys a t = t
behind (Some (PastSize s)) xs ys a t = t
behind (Some (Capacity k)) xs ys a t = t

first_of : (o p : Option DraftFault) (xs ys : List Number) → Tells o xs → (AllIn xs → Tells p ys) → Tells (or_else o p) (xs ++ ys)
first_of None p xs ys a h = behind p xs ys a (h a)
first_of (Some (Range w)) p xs ys f h = out_before xs ys w f
first_of (Some (Missing g)) p xs ys f h = absurd f
first_of (Some (PastSize s)) p xs ys f h = absurd f
first_of (Some (Capacity k)) p xs ys f h = absurd f

both : {o p : Option DraftFault} {xs ys : List Number} → Judges o xs → (AllIn xs → Judges p ys) → Judges (or_else o p) (xs ++ ys)
both {o} {p} {xs} {ys} f g = record { tells = first_of o p xs ys f.tells (λ a. (g a).tells) }

-- One number
module _ (which low high v : ℕ) where
  abbrev one : Number
  one = record { which = which; value = v; low = low; high = high }

  by : (b : Bool) → outside low high v ≡ b → Tells (cond b (Some (Range which)) None) (one ∷ [])
  by true e = inl (elim (or_cases (ltb v low) (ltb high v) e) [ inl f ↦ inl (ltb-true _ _ f) | inr f ↦ inr (ltb-true _ _ f) ], refl)
  by false e = let h = or_parts (ltb v low) (ltb high v) e in ((ltb-false _ _ h.0, ltb-false _ _ h.1), tt)

  ranged : Judges (range_fault which low high v) (one ∷ [])
  ranged = record { tells = by (outside low high v) refl }

module _ (which n v : ℕ) (some : 1 ≤ n) where
  placed_by : (b : Bool) → leb n v ≡ b → Tells (cond b (Some (Range which)) None) (a_station n which v ∷ [])
  placed_by true e = inl (inr (omega (arith, leb-true _ _ e)), refl)
  placed_by false e = ((omega arith, omega (arith, leb-false _ _ e)), tt)

  placed : Judges (station_fault which n v) (a_station n which v ∷ [])
  placed = record { tells = placed_by (leb n v) refl }

roomed : (o : Option ℕ) → Judges (capacity_fault o) (a_capacity 4 o)
roomed None = record { tells = tt }
roomed (Some c) = ranged 4 0 10_000 c

-- Entry after entry
module _ {X : Type 0} (f : ℕ → X → Option DraftFault) (ns : ℕ → List Number) (d : X) where
  each : (j : ℕ) (xs : List X) → ((i : ℕ) → i < length xs → Judges (f (j + i) (get_or xs i d)) (ns (j + i))) → Judges (first_fault f j xs) (flat_map ns (range_with_len j (length xs)))
  each j [] h = record { tells = tt }
  each j (x ∷ xs) h =
      both (subst (λ k. Judges (f k x) (ns k)) (let z : j + 0 ≡ j = omega arith in z) (h 0 (omega arith)))
      (λ _. subst (λ k. Judges (first_fault f (suc j) xs) (flat_map ns (range_with_len k (length xs)))) (let z : suc j ≡ j + 1 = omega arith in z)
      (each (suc j) xs (λ i l. subst (λ k. Judges (f k (get_or xs i d)) (ns k)) (let z : j + suc i ≡ suc j + i = omega arith in z) (h (suc i) (omega arith)))))

  all : (xs : List X) → ((i : ℕ) → i < length xs → Judges (f i (get_or xs i d)) (ns i)) → Judges (first_fault f 0 xs) (flat_map ns (range_with_len 0 (length xs)))
  all xs h = each 0 xs (λ i l. subst (λ k. Judges (f k (get_or xs i d)) (ns k)) (let z : i ≡ 0 + i = omega arith in z) (h i l))

joined_one : (f : ℕ → Number) (xs : List ℕ) → flat_map (λ x. f x ∷ []) xs ≡ map f xs
joined_one f [] = refl
joined_one f (x ∷ xs) = ap (λ z. f x ∷ z) (joined_one f xs)

or_assoc : (o p q : Option DraftFault) → or_else o (or_else p q) ≡ or_else (or_else o p) q
or_assoc None p q = refl
or_assoc (Some f) p q = refl

-- Capacities below the stock
abbrev pub Full : LinkTerms → Type 0
Full t = (room : ℕ) × (t.capacity ≡ Some room) × (room < t.stock)

abbrev pub Rooms : ℕ → List LinkTerms → Option DraftFault → Type 0
Rooms j xs None = (i : ℕ) → i < length xs → Full (get_or xs i no_terms) → ⊥
Rooms j xs (Some (Capacity k)) = (i : ℕ) × (k ≡ j + i) × (i < length xs) × Full (get_or xs i no_terms) × ((h : ℕ) → h < i → Full (get_or xs h no_terms) → ⊥)
Rooms j xs (Some (Range w)) = ⊥
Rooms j xs (Some (Missing h)) = ⊥
Rooms j xs (Some (PastSize s)) = ⊥

none_full : (x : LinkTerms) (xs : List LinkTerms) (n : ℕ) → (Full x → ⊥) → ((i : ℕ) → i < n → Full (get_or xs i no_terms) → ⊥) → (i : ℕ) → i < suc n → Full (get_or (x ∷ xs) i no_terms) → ⊥
none_full x xs n h r zero l f = h f
none_full x xs n h r (suc i) l f = r i (omega arith) f

none_then : (j : ℕ) (x : LinkTerms) (xs : List LinkTerms) → (Full x → ⊥) → (o : Option DraftFault) → Rooms (suc j) xs o → Rooms j (x ∷ xs) o
none_then j x xs h None r = λ i l f. none_full x xs (length xs) h r i (omega arith) f
none_then j x xs h (Some (Capacity k)) (i, e, l, f, n) = (suc i, omega arith, omega arith, f, λ g m q. none_full x xs i h n g m q)
none_then j x xs h (Some (Range w)) r = r
none_then j x xs h (Some (Missing g)) r = r
none_then j x xs h (Some (PastSize s)) r = r

module _ (j : ℕ) (x : LinkTerms) (xs : List LinkTerms) (rest : Rooms (suc j) xs (first_fault room_fault (suc j) xs)) where
  full_by : (c : ℕ) (b : Bool) → x.capacity ≡ Some c → ltb c x.stock ≡ b → Rooms j (x ∷ xs) (or_else (cond b (Some (Capacity j)) None) (first_fault room_fault (suc j) xs))
  full_by c true e f = (0, omega arith, omega arith, (c, e, ltb-true _ _ f), λ h l q. omega arith)
  full_by c false e f = none_then j x xs (λ q. omega (arith, ltb-false _ _ f, q.2, some_same c q.0 (sym e ∙ q.1))) (first_fault room_fault (suc j) xs) rest

  full_here : (o : Option ℕ) → x.capacity ≡ o → Rooms j (x ∷ xs) (or_else (below_stock j x.stock o) (first_fault room_fault (suc j) xs))
  full_here None e = none_then j x xs (λ q. none_some q.0 (sym e ∙ q.1)) (first_fault room_fault (suc j) xs) rest
  full_here (Some c) e = full_by c (ltb c x.stock) e refl

rooms : (j : ℕ) (xs : List LinkTerms) → Rooms j xs (first_fault room_fault j xs)
rooms j [] = λ i l f. omega arith
rooms j (x ∷ xs) = full_here j x xs (rooms (suc j) xs) x.capacity refl

-- The whole draft
module _ (s : NetSizes) (t : Tables) (W : WholeTables t) where
  abbrev sizes_in : List Number
  sizes_in = sizes_numbers (entries_of s t)

  sizes : Judges (sizes_fault s) sizes_in
  sizes =
      both (ranged 1 1 64 s.stations) (λ _.
      both (ranged 2 0 128 s.links) (λ _.
      both (ranged 3 1 1_000_000 s.pace.share) (λ _. ranged 4 1 10_000_000_000 s.pace.unit)))

  module _ (small : AllIn sizes_in) where
    stations_many : length (take s.stations t.durations) ≡ s.stations
    stations_many = length-take-le s.stations t.durations (omega (arith, small.0.1, W.durations))

    ends_many : length (take s.links t.ends) ≡ s.links
    ends_many = length-take-le s.links t.ends (omega (arith, small.1.0.1, W.ends))

    pub terms_many : length (take s.links t.terms) ≡ s.links
    terms_many = length-take-le s.links t.terms (omega (arith, small.1.0.1, W.terms))

    durations : Judges (durations_fault (take s.stations t.durations)) (map (λ k. a_duration 1 (get_or (take s.stations t.durations) k 0)) (range_with_len 0 s.stations))
    durations =
        let xs = take s.stations t.durations in
        subst (Judges (durations_fault xs)) (ap (λ n. flat_map (λ k. a_duration 1 (get_or xs k 0) ∷ []) (range_with_len 0 n)) stations_many ∙ joined_one (λ k. a_duration 1 (get_or xs k 0)) (range_with_len 0 s.stations))
        (all (λ k d. duration_fault d) (λ k. a_duration 1 (get_or xs k 0) ∷ []) 0 xs (λ i l. ranged 1 1 10_000 (get_or xs i 0)))

    ends : Judges (all_ends_fault s.stations (take s.links t.ends)) (flat_map (ends_numbers (entries_of s t)) (range_with_len 0 s.links))
    ends =
        let xs = take s.links t.ends in
        subst (λ n. Judges (all_ends_fault s.stations xs) (flat_map (ends_numbers (entries_of s t)) (range_with_len 0 n))) ends_many
        (all (λ k e. ends_fault s.stations e) (ends_numbers (entries_of s t)) no_ends xs
        (λ i l. both (placed 1 s.stations (get_or xs i no_ends).from small.0.0) (λ _. placed 2 s.stations (get_or xs i no_ends).to small.0.0)))

    terms : Judges (all_terms_fault (take s.links t.terms)) (flat_map (terms_numbers (entries_of s t)) (range_with_len 0 s.links))
    terms =
        let xs = take s.links t.terms in
        subst (λ n. Judges (all_terms_fault xs) (flat_map (terms_numbers (entries_of s t)) (range_with_len 0 n))) terms_many
        (all (λ k e. terms_fault e) (terms_numbers (entries_of s t)) no_terms xs
        (λ i l. let e = get_or xs i no_terms in
        both (ranged 1 1 1_000 e.produced) (λ _.
        both (ranged 2 1 1_000 e.consumed) (λ _.
        both (ranged 3 0 10_000 e.stock) (λ _. roomed e.capacity)))))

  abbrev pub numbers_fault : Option DraftFault
  numbers_fault =
      or_else (sizes_fault s)
      (or_else (durations_fault (take s.stations t.durations))
      (or_else (all_ends_fault s.stations (take s.links t.ends)) (all_terms_fault (take s.links t.terms))))

  pub numbers_told : Judges numbers_fault (draft_numbers (entries_of s t))
  numbers_told = both sizes (λ small. both (durations small) (λ _. both (ends small) (λ _. terms small)))

  abbrev pub full_fault : Option DraftFault
  full_fault = rooms_fault (take s.links t.terms)

  pub rooms_told : Rooms 0 (take s.links t.terms) full_fault
  rooms_told = rooms 0 (take s.links t.terms)

  pub parts : draft_fault s t ≡ or_else numbers_fault full_fault
  parts =
      let a = sizes_fault s in
      let b = durations_fault (take s.stations t.durations) in
      let c = all_ends_fault s.stations (take s.links t.ends) in
      let d = all_terms_fault (take s.links t.terms) in
      ap (or_else a) (ap (or_else b) (or_assoc c d full_fault) ∙ or_assoc b (or_else c d) full_fault) ∙ or_assoc a (or_else b (or_else c d)) full_fault
