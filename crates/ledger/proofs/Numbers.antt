-- What it says that all numbers of a call are in range. Assumes nothing.
use Rattle.std.proofs.Common.{◌≡◌, ℕ, zero, suc, ◌+◌, ◌<◌, ◌≤◌, cond, ltb, ◌⊎◌, List, [], ◌∷◌, ◌++◌, map, length, Some, None, Option, sym, refl, ap, ◌∙◌, subst, inl, inr, arith}
use Rattle.std.specs.List.{range_with_len, flat_map}
use Rattle.std.proofs.lemmas.Bool.{cases_lt, lt-ltb, le-ltb}
use Rattle.std.proofs.lemmas.List.{get_or_past}
use Rattle.std.proofs.lemmas.List.FromFn.{length-map-range_with_len, get_or-map-range_with_len}
use Rattle.handover.proofs.Options.{none_some, some_same}
use Rattle.rules.specs.Net.{Link, Net, Open, duration}
use Rattle.rules.specs.Ranges.{Checked}
use Rattle.texts.specs.NetText.{Entries}
use Rattle.ledger.specs.Calls.{Source, Call, load, open_link, put, close, ask, at}
use Rattle.ledger.specs.States.{entry_duration, entry_link, net_of, first, below, Gives}
use Rattle.ledger.specs.Checks.{Lowest, out_of_range, too_full, MakesFull}
use Rattle.ledger.specs.Ranges.{Number, Out, FirstOut, Numbers, sizes_numbers, ends_numbers, terms_numbers, draft_numbers, a_duration, a_capacity}
use Rattle.ledger.specs.Runs.{Passes}
use Rattle.ledger.proofs.Reading.{gives_one}

abbrev pub Within : Number → Type 0
Within n = (n.low ≤ n.value) × (n.value ≤ n.high)

abbrev pub AllIn : List Number → Type 0
AllIn [] = Unit {0}
AllIn (n ∷ ns) = Within n × AllIn ns

out_or_in : (n : Number) → Out n ⊎ Within n
out_or_in n =
    elim (cases_lt n.value n.low) [
      | inl h ↦ inl (inl h)
      | inr h ↦ elim (cases_lt n.high n.value) [ inl g ↦ inl (inr g) | inr g ↦ inr (h, g) ]
    ]

pub not_out : (n : Number) → Within n → Out n → ⊥
not_out n (a, b) (inl h) = omega arith
not_out n (a, b) (inr h) = omega arith

all_in : (ns : List Number) → ((w : ℕ) → FirstOut ns w → ⊥) → AllIn ns
all_in [] h = tt
all_in (n ∷ ns) h =
    elim (out_or_in n) [
      | inl o ↦ absurd (h n.which (inl (o, refl)))
      | inr i ↦ (i, all_in ns (λ w f. h w (inr (not_out n i, f))))
    ]

pub none_out : (ns : List Number) → AllIn ns → (w : ℕ) → FirstOut ns w → ⊥
none_out [] a w f = f
none_out (n ∷ ns) (i, a) w (inl (o, e)) = not_out n i o
none_out (n ∷ ns) (i, a) w (inr (o, f)) = none_out ns a w f

pub numbers_one : (N : Net) (c : Call) (ns ms : List Number) → Numbers N c ns → Numbers N c ms → ns ≡ ms
numbers_one N (load s n) ns ms (e, g, h) (d, f, k) = h ∙ ap draft_numbers (gives_one s e d g f) ∙ sym k
numbers_one N (open_link i l n) ns ms h k = h ∙ sym k
numbers_one N (put s n) ns ms h k = h ∙ sym k
numbers_one N (close i) ns ms h k = h ∙ sym k
numbers_one N (ask q) ns ms h k = h ∙ sym k

pub in_range : (N : Net) (c : Call) → Passes N c out_of_range → (ns : List Number) → Numbers N c ns → AllIn ns
in_range N c h ns m = all_in ns (λ w f. h (at w) (ns, w, m, f, refl))

pub ranges_pass : (N : Net) (c : Call) (ns : List Number) → Numbers N c ns → AllIn ns → Passes N c out_of_range
ranges_pass N c ns m a p (ms, w, m', f, e) = none_out ns a w (subst (λ z. FirstOut z w) (numbers_one N c ms ns m' m) f)

pub both_in : (xs ys : List Number) → AllIn (xs ++ ys) → AllIn xs × AllIn ys
both_in [] ys a = (tt, a)
both_in (x ∷ xs) ys (i, a) = let b = both_in xs ys a in ((i, b.0), b.1)

first_in : (f : ℕ → Number) (a n k : ℕ) → AllIn (map f (range_with_len a n)) → a ≤ k → k < a + n → Within (f k)
first_in f a zero k h l m = absurd (omega arith)
first_in f a (suc n) k (i, h) l m =
    elim (cases_lt a k) [
      | inl g ↦ first_in f (a + 1) n k h (omega arith) (omega arith)
      | inr g ↦ (let e : a ≡ k = omega arith in subst (λ z. Within (f z)) e i)
    ]

joined_in : (f : ℕ → List Number) (a n k : ℕ) → AllIn (flat_map f (range_with_len a n)) → a ≤ k → k < a + n → AllIn (f k)
joined_in f a zero k h l m = absurd (omega arith)
joined_in f a (suc n) k h l m =
    let b = both_in (f a) (flat_map f (range_with_len (a + 1) n)) h in
    elim (cases_lt a k) [
      | inl g ↦ joined_in f (a + 1) n k b.1 (omega arith) (omega arith)
      | inr g ↦ (let e : a ≡ k = omega arith in subst (λ z. AllIn (f z)) e b.0)
    ]

-- of a draft
record Ranged (e : Entries) : Type 0 where
  sizes : AllIn (sizes_numbers e)
  lasting : (k : ℕ) → k < e.sizes.stations → Within (a_duration 1 (entry_duration e k))
  ends : (k : ℕ) → k < e.sizes.links → AllIn (ends_numbers e k)
  terms : (k : ℕ) → k < e.sizes.links → AllIn (terms_numbers e k)

draft_ranged : (e : Entries) → AllIn (draft_numbers e) → Ranged e
draft_ranged e a =
    let n = e.sizes.stations in
    let m = e.sizes.links in
    let b1 = both_in (sizes_numbers e) _ a in
    let b2 = both_in (first n (λ k. a_duration 1 (entry_duration e k))) _ b1.1 in
    let b3 = both_in (flat_map (ends_numbers e) (below m)) (flat_map (terms_numbers e) (below m)) b2.1 in
    record {
      sizes = b1.0;
      lasting = λ k h. first_in (λ k. a_duration 1 (entry_duration e k)) 0 n k b2.0 (omega arith) (omega arith);
      ends = λ k h. joined_in (ends_numbers e) 0 m k b3.0 (omega arith) (omega arith);
      terms = λ k h. joined_in (terms_numbers e) 0 m k b3.1 (omega arith) (omega arith);
    }

-- a capacity that is there
pub capacity_in : (which : ℕ) (o : Option ℕ) (c : ℕ) → AllIn (a_capacity which o) → o ≡ Some c → c ≤ 10_000
capacity_in which None c a e = absurd (none_some c e)
capacity_in which (Some x) c ((l, h), a) e = omega (arith, some_same x c e)

-- the lowest number, where there is one
none_lowest : (P : ℕ → Type 0) → ((k : ℕ) → Lowest P k → ⊥) → (n k : ℕ) → k < n → P k → ⊥
none_lowest P h zero k l p = omega arith
none_lowest P h (suc n) k l p = h k (record { holds = p; none_below = λ j m. none_lowest P h n j (omega arith) })

pub not_full : (N : Net) (c : Call) → Passes N c too_full → (k : ℕ) → MakesFull N c k → ⊥
not_full N c h k p = none_lowest (MakesFull N c) (λ k l. h (at k) (k, l, refl)) (suc k) k (omega arith) p

-- the links and durations of a draft's net
cond_some : {X : Type 0} (k m : ℕ) (x y : X) → cond (ltb k m) (Some x) None ≡ Some y → (k < m) × (y ≡ x)
cond_some {X} k m x y e =
    elim (cases_lt k m) [
      | inl h ↦ (h, sym (some_same x y (subst (λ b. cond b (Some x) None ≡ Some y) (lt-ltb k m h) e)))
      | inr h ↦ absurd (none_some y (subst (λ b. cond b (Some x) None ≡ Some y) (le-ltb k m h) e))
    ]

pub entry_open : (e : Entries) (Z : List ℕ) (k : ℕ) (l : Link) → Open (net_of e Z) k l → (k < e.sizes.links) × (l ≡ entry_link e k)
entry_open e Z k l o =
    let f : ℕ → Option Link = λ k. cond (ltb k e.sizes.links) (Some (entry_link e k)) None in
    elim (cases_lt k 128) [
      | inl h ↦ cond_some k e.sizes.links (entry_link e k) l (sym (get_or-map-range_with_len f 0 128 k k None h (omega arith)) ∙ o)
      | inr h ↦ absurd (none_some l (sym (get_or_past (first 128 f) k None (omega arith)) ∙ o))
    ]

entry_lasts : (e : Entries) (Z : List ℕ) (i : ℕ) → i < e.sizes.stations → duration (net_of e Z) i ≡ entry_duration e i
entry_lasts e Z i h = get_or-map-range_with_len (entry_duration e) 0 e.sizes.stations i i 0 h (omega arith)

pub entry_stations : (e : Entries) (Z : List ℕ) → length (net_of e Z).durations ≡ e.sizes.stations
entry_stations e Z = length-map-range_with_len (entry_duration e) 0 e.sizes.stations

-- what is asked of a draft's net before it has rates
pub draft_checked : (N : Net) (s : Source) (n : ℕ) (e : Entries) (Z : List ℕ) → Gives s e → Passes N (load s n) out_of_range → Passes N (load s n) too_full → Checked (net_of e Z)
draft_checked N s n e Z g range room =
    let G = draft_ranged e (in_range N (load s n) range (draft_numbers e) (e, g, refl)) in
    let count : length (net_of e Z).durations ≡ e.sizes.stations = entry_stations e Z in
    let numbers : length (net_of e Z).links ≡ 128 = refl in
    record {
      some = omega (arith, G.sizes.0.0);
      few = omega (arith, G.sizes.0.1);
      numbers = omega arith;
      lasting = λ i h. let k : i < e.sizes.stations = omega arith in subst (λ z. (1 ≤ z) × (z ≤ 10_000)) (sym (entry_lasts e Z i k)) (G.lasting i k);
      share = G.sizes.1.1.0;
      unit = G.sizes.1.1.1.0;
      linked = λ k l o.
          let f = entry_open e Z k l o in
          let E = G.ends k f.0 in
          let T = G.terms k f.0 in
          let some : 1 ≤ e.sizes.stations = G.sizes.0.0 in
          record {
            from_station = omega (arith, E.0.1, ap (λ z. z.i) f.1);
            to_station = omega (arith, E.1.0.1, ap (λ z. z.j) f.1);
            gives = omega (arith, T.0.0, ap (λ z. z.w) f.1);
            arrive = omega (arith, T.0.1, ap (λ z. z.w) f.1);
            takes = omega (arith, T.1.0.0, ap (λ z. z.v) f.1);
            leave = omega (arith, T.1.0.1, ap (λ z. z.v) f.1);
            stock = omega (arith, T.1.1.0.1, ap (λ z. z.u) f.1);
            room = λ c q. (
              capacity_in 4 (entry_link e k).c c T.1.1.1 (ap (λ z. z.c) (sym f.1) ∙ q),
              elim (cases_lt c l.u) [ inl less ↦ absurd (not_full N (load s n) room k (l, c, (e, g, f.0, f.1), q, less)) | inr fits ↦ fits ],
            );
          };
    }
