-- The worked examples. Assumes nothing.
use Rattle.std.proofs.Common.{◌≡◌, ℕ, zero, suc, ◌<◌, ◌≤◌, List, [], ◌∷◌, map, length, get_or, Some, None, refl, subst, inl, inr, not-suc-le-zero, arith, lit<, lit≤}
use Prim.Native.Nat.{◌∣◌}
use native.Mathlib.Nat.{dvd-zero, dvd-one}
use Rattle.handover.specs.Gcd.{gcd}
use Rattle.handover.proofs.Gcd.{gcd_is}
use Rattle.rules.specs.Net.{Link, stations}
use Rattle.rules.specs.Rates.{stay, on, Joined, CutOff, Rated, with_rates, NoRates}
use Rattle.rates.specs.Reaching.{number, Balance}
use Rattle.rules.proofs.Examples as examples
use Rattle.rates.specs.Theorems.{tie, net, two, row, ring, assembly, Worked}
use Rattle.rates.proofs.Links.{led_reached}
use Rattle.std.proofs.lemmas.Option.{none-some, same_Some}

-- P holds of each element
abbrev Each : {A : Type 0} → (A → Type 0) → List A → Type 0
Each P [] = Unit {0}
Each P (x ∷ xs) = P x × Each P xs

each_number : (P : ℕ → Type 0) (Z : List ℕ) → Each P Z → (i : ℕ) → i < length Z → P (number Z i)
each_number P [] e i h = absurd (not-suc-le-zero h)
each_number P (x ∷ xs) e zero h = e.0
each_number P (x ∷ xs) e (suc i) h = each_number P xs e.1 i (omega arith)

each_link : (P : Link → Type 0) (ls : List Link) → Each P ls → (k : ℕ) (l : Link) → get_or (map Some ls) k None ≡ Some l → P l
each_link P [] e k l o = absurd (none-some l o)
each_link P (t ∷ ls) e zero l o = subst P (same_Some t l o) e.0
each_link P (t ∷ ls) e (suc k) l o = each_link P ls e.1 k l o

abbrev divisor : List ℕ → ℕ
divisor [] = 0
divisor (x ∷ xs) = gcd x (divisor xs)

divides : (d : ℕ) (Z : List ℕ) → ((i : ℕ) → i < length Z → d ∣ number Z i) → d ∣ divisor Z
divides d [] h = dvd-zero d
divides d (x ∷ xs) h = (gcd_is x (divisor xs)).greatest d (h 0 (omega arith)) (divides d xs (λ i p. h (suc i) (omega arith)))

-- the rates of a net with all its numbers open
rated : (n : ℕ) (ls : List Link) (Z : List ℕ) → length Z ≡ stations (net n ls) → Each (λ x. (1 ≤ x) × (x ≤ 10_000)) Z → Each (λ l. Balance l Z) ls → divisor Z ≡ 1 → Rated (with_rates (net n ls) Z)
rated n ls Z long some even one = record {
  complete = long;
  least = λ i h. (each_number (λ x. (1 ≤ x) × (x ≤ 10_000)) Z some i (omega arith)).0;
  most = λ i h. (each_number (λ x. (1 ≤ x) × (x ≤ 10_000)) Z some i (omega arith)).1;
  balanced = each_link (λ l. Balance l Z) ls even;
  reduced = λ d D. (let e : d ≡ 1 = dvd-one.0 (subst (λ t. d ∣ t) one (divides d Z (λ i h. D i (omega arith)))) in omega arith);
}

row_none : NoRates (net 3 (row 11))
row_none Z R = omega (arith, R.balanced 0 (tie 0 1 1 1_000) refl, R.balanced 1 (tie 1 2 1 11) refl, R.least 0 (lit< tt), R.most 2 (lit< tt))

ring_none : NoRates (net 2 ring)
ring_none Z R = omega (arith, R.balanced 0 (tie 0 1 1 2) refl, R.balanced 1 (tie 1 0 1 2) refl, R.least 0 (lit< tt))

assembly_joined : Joined (net 5 assembly)
assembly_joined zero h = stay refl
assembly_joined (suc zero) h = on 2 1 (tie 1 2 1 3) (on 0 0 (tie 0 2 1 2) (stay refl) refl (inl (refl, refl))) refl (inr (refl, refl))
assembly_joined (suc (suc zero)) h = on 0 0 (tie 0 2 1 2) (stay refl) refl (inl (refl, refl))
assembly_joined (suc (suc (suc zero))) h = on 0 2 (tie 3 0 2 1) (stay refl) refl (inr (refl, refl))
assembly_joined (suc (suc (suc (suc zero)))) h = on 0 6 (tie 4 0 6 1) (stay refl) refl (inr (refl, refl))
assembly_joined (suc (suc (suc (suc (suc y))))) h = absurd (omega arith)

two_cut : CutOff (net 2 []) 1
two_cut = record {
  station = lit< tt;
  apart = λ d. absurd (not-suc-le-zero (led_reached (net 2 []) (1 ∷ []) (λ k l o. absurd (none-some l o)) 0 1 d (lit≤ tt)));
  lowest = λ x h. stay (omega arith);
}

pub worked : Worked
worked = record {
  timetables = examples.worked;
  two_rates = rated 2 two (2 ∷ 3 ∷ []) refl ((lit≤ tt, lit≤ tt), ((lit≤ tt, lit≤ tt), tt)) (refl, tt) refl;
  row_rates = rated 3 (row 10) (1 ∷ 1_000 ∷ 10_000 ∷ []) refl ((lit≤ tt, lit≤ tt), ((lit≤ tt, lit≤ tt), ((lit≤ tt, lit≤ tt), tt))) (refl, (refl, tt)) refl;
  row_none = row_none;
  ring_none = ring_none;
  assembly_joined = assembly_joined;
  assembly_rates = rated 5 assembly (3 ∷ 2 ∷ 6 ∷ 6 ∷ 18 ∷ []) refl ((lit≤ tt, lit≤ tt), ((lit≤ tt, lit≤ tt), ((lit≤ tt, lit≤ tt), ((lit≤ tt, lit≤ tt), ((lit≤ tt, lit≤ tt), tt))))) (refl, (refl, (refl, (refl, (refl, (refl, (refl, (refl, tt)))))))) refl;
  two_cut = two_cut;
}
