-- Paces of a good net, from the first one up to the fastest. Assumes nothing.
use Rattle.std.proofs.Common.{◌≡◌, ℕ, ◌+◌, ◌-◌, ◌*◌, ◌/◌, ◌<◌, ◌≤◌, List, [], ◌∷◌, length, get_or, drop, Some, None, Option, MatchOption, Bor, pos, neg_ℤ, sym, refl, ap, ◌∙◌, subst, inl, inr, add-zero, mul-le-mul_left, div-le_self, arith}
use Rattle.std.specs.Option.{IsSomeAnd, option_copied}
use native.Mathlib.Nat.{le_of_mul-le-mul_left}
use lib.IntN.{+ℤ_idr}
use Rattle.std.proofs.lemmas.Bool.{cases_lt}
use Rattle.std.proofs.lemmas.List.{length-drop, drop_more}
use Rattle.handover.specs.Gcd.{gcd}
use Rattle.handover.proofs.Gcd.{gcd_is}
use Rattle.handover.proofs.Rates.{whole_left, whole_right, gcd_pos, parts_coprime}
use Rattle.rules.specs.Net as rules
use Rattle.rules.specs.Net.{at_pace_lem, stations}
use Rattle.rules.specs.Rules.{HasTimetable, NoPace}
use Rattle.rules.specs.Steps.{own, PairCircuit}
use Rattle.rules.proofs.Paces.{sound_at, circuit_at, shares_of_at, time_of_at, pair_forbids_lem}
use Rattle.rules.proofs.Fastest.{rises, in_lowest}
use Rattle.nets.specs.declared.Net.{Net}
use Rattle.nets.specs.declared.Pace.{Pace}
use Rattle.nets.specs.declared.sound.SoundNet.{SoundNet}
use Rattle.nets.specs.Views.{of_net, Good}
use Rattle.timing.specs.declared.Raised.{Raised}
use Rattle.timing.specs.declared.Raised.TheVariants.{Enough, To, Never}
use Rattle.timing.specs.Pacing.{with_pace, PaceInRange, Raises, Named, FirstPace, lowest_terms, FastestPace}

-- A good net is good at every pace that a net can have
pub good_at : (N : Net) → Good N → (p : Pace) → PaceInRange p → Good (with_pace N p)
good_at N G p P =
    let R = G.range in
    record {
      whole = record { few = G.whole.few; long = G.whole.long; rated = G.whole.rated; numbered = G.whole.numbered };
      sound = sound_at (of_net N) p.share p.unit G.sound P.share.0 P.unit.0;
      range = record { some = R.some; few = R.few; numbers = R.numbers; lasting = R.lasting; recurring = R.recurring; share = P.share.1; unit = P.unit.1; linked = R.linked };
    }

-- What a round at a pace says of the net at that pace, it says of the net at its own
module _ (N : Net) (A B : ℕ) where
  named_back : (p : Pace) → Named (at_pace_lem (of_net N) A B) p → Named (of_net N) p
  named_back p n =
      record {
        steps = n.steps;
        circuit = circuit_at (at_pace_lem (of_net N) A B) (of_net N).A (of_net N).B n.steps n.circuit;
        shares = sym (shares_of_at (of_net N) A B n.steps) ∙ n.shares;
        time = sym (time_of_at (of_net N) A B n.steps) ∙ n.time;
        share = n.share;
        unit = n.unit;
      }

  pub raises_back : (p : Pace) (r : Raised) → Raises (at_pace_lem (of_net N) A B) p r → Raises (of_net N) p r
  raises_back p Enough h = h
  raises_back p (To q) h = (named_back q h.0, h.1)
  raises_back p Never h = h

pub raises_at : (N : Net) (p : Pace) (at : Net) → at ≡ with_pace N p → (r : Raised) → Raises (of_net at) at.pace r → Raises (of_net N) p r
raises_at N p at q r h = raises_back N p.share p.unit p r (subst (λ (z : Net). Raises (of_net z) z.pace r) q h)

-- A round at another pace, where that can be had
pub raised : (N : Net) (p : Pace) (at : Option SoundNet) (behind : Option (Bor SoundNet)) → option_copied behind ≡ at → (x : Option Raised)
    → MatchOption at (PaceInRange p → ⊥) (λ s. PaceInRange p × (s.net ≡ with_pace N p)) → MatchOption behind (x ≡ None) (λ s. IsSomeAnd x (Raises (of_net s.now.net) s.now.net.pace))
    → MatchOption x (PaceInRange p → ⊥) (λ r. PaceInRange p × Raises (of_net N) p r)
raised N p at None e x a q =
    subst (λ z. MatchOption z (PaceInRange p → ⊥) (λ r. PaceInRange p × Raises (of_net N) p r)) (sym q)
    (subst (λ z. MatchOption z (PaceInRange p → ⊥) (λ s. PaceInRange p × (s.net ≡ with_pace N p))) (sym e) a)
raised N p at (Some s) e None a q = absurd q
raised N p at (Some s) e (Some r) a q =
    let b = subst (λ z. MatchOption z (PaceInRange p → ⊥) (λ s. PaceInRange p × (s.net ≡ with_pace N p))) (sym e) a in
    (b.0, raises_at N p s.now.net b.1 r q)

-- The greatest of the stations' own paces

-- the pace of a station that none of the first n stations' passes
pub record Slowest (N : rules.Net) (n : ℕ) (p : ℕ × ℕ) : Type 0 where
  pub station : ℕ
  pub inside : station < stations N
  pub share : p.0 ≡ rules.duration N station
  pub unit : p.1 ≡ rules.rate N station
  pub greatest : (j : ℕ) → j < n → rules.duration N j * p.1 ≤ p.0 * rules.rate N j

passes : (dj rj d r di ri : ℕ) → 1 ≤ r → dj * r ≤ d * rj → d * ri < di * r → dj * ri ≤ di * rj
passes dj rj d r di ri h k l = le_of_mul-le-mul_left {k = r} (omega (arith, mul-le-mul_left ri k, mul-le-mul_left rj l)) h

module _ (N : rules.Net) (S : rules.Sound N) (n : ℕ) (p : ℕ × ℕ) (s : Slowest N n p) (d r : ℕ) (here : n < stations N) (hd : d ≡ rules.duration N n) (hr : r ≡ rules.rate N n) where
  pub slower_found : p.0 * r < d * p.1 → Slowest N (n + 1) (d, r)
  slower_found l =
      record {
        station = n;
        inside = here;
        share = hd;
        unit = hr;
        greatest = λ j h.
            elim (cases_lt j n) [
              | inl k ↦ passes (rules.duration N j) (rules.rate N j) p.0 p.1 d r (omega (arith, s.unit, S.recurring s.station s.inside)) (s.greatest j k) l
              | inr k ↦ (let f : j ≡ n = omega arith in omega (arith, ap (λ z. z * r) (ap (rules.duration N) f ∙ sym hd), ap (λ z. d * z) (ap (rules.rate N) f ∙ sym hr)))
            ];
      }

  pub none_slower : d * p.1 ≤ p.0 * r → Slowest N (n + 1) p
  none_slower l =
      record {
        station = s.station;
        inside = s.inside;
        share = s.share;
        unit = s.unit;
        greatest = λ j h.
            elim (cases_lt j n) [
              | inl k ↦ s.greatest j k
              | inr k ↦ (let f : j ≡ n = omega arith in omega (arith, ap (λ z. z * p.1) (ap (rules.duration N) f ∙ sym hd), ap (λ z. p.0 * z) (ap (rules.rate N) f ∙ sym hr)))
            ];
      }

-- what a list has at k, where its rest from there is known
pub front_of : (xs : List ℕ) (k x : ℕ) (rest : List ℕ) → drop k xs ≡ x ∷ rest → (k < length xs) × (x ≡ get_or xs k 0) × (rest ≡ drop (k + 1) xs)
front_of xs k x rest e =
    let h : k < length xs = omega (arith, ap length e, length-drop k xs) in
    let d = drop_more xs k 0 h in
    (h, cc, cc)

pub first_is : (N : rules.Net) (n : ℕ) (p : ℕ × ℕ) → Slowest N n p → stations N ≤ n → FirstPace N (record { share = p.0; unit = p.1 })
first_is N n p s h = record { station = s.station; inside = s.inside; share = s.share; unit = s.unit; greatest = λ i l. s.greatest i (omega arith) }

module _ (N : Net) (G : Good N) where
  -- a station's own step is a circuit
  pub own_named : (p : Pace) → FirstPace (of_net N) p → Named (of_net N) p
  own_named p F =
      let M = of_net N in
      let i = F.station in
      record {
        steps = own i ∷ [];
        circuit = record { closed = (i, (F.inside, refl, refl)); once = (tt, tt) };
        shares = +ℤ_idr (neg_ℤ (pos (rules.rate M i))) ∙ ap (λ z. neg_ℤ (pos z)) (sym F.unit);
        time = add-zero (rules.duration M i) ∙ sym F.share;
        share = (omega (arith, F.share, G.sound.lasting i F.inside), omega (arith, F.share, G.range.lasting i F.inside));
        unit = (omega (arith, F.unit, G.sound.recurring i F.inside), omega (arith, F.unit, G.range.recurring i F.inside));
      }

  -- a pace with a timetable that a circuit names is the fastest
  pub fastest_named_lem : (p : Pace) → Named (of_net N) p → HasTimetable (at_pace_lem (of_net N) p.share p.unit) → FastestPace (of_net N) (lowest_terms p)
  fastest_named_lem p n has =
      let a = p.share in
      let b = p.unit in
      let F = in_lowest (of_net N) G.sound n.steps n.circuit (gcd a b) (a / gcd a b) (b / gcd a b) a b (whole_left a b) (whole_right a b)
      (parts_coprime (gcd_is a b) (gcd_pos a b n.share.0) (whole_left a b) (whole_right a b)) n.share.0 n.unit.0 has n.shares n.time in (
        F,
        record {
          share = (F.share, omega (arith, div-le_self a (gcd a b), n.share.1));
          unit = (F.unit, omega (arith, div-le_self b (gcd a b), n.unit.1));
        },
      )

  pub no_pace : PairCircuit (of_net N) → NoPace (of_net N)
  no_pace (c, C, p) = pair_forbids_lem (of_net N) G.sound c C p

pub divisor_some : (N : rules.Net) (p : Pace) → Named N p → 1 ≤ gcd p.share p.unit
divisor_some N p n = gcd_pos p.share p.unit n.share.0

-- How far a pace is below the slowest that a circuit can name
abbrev pub below_slowest : Pace → ℕ
below_slowest p = 6_400_000_000 * 6_400_000_000 * 640_000 - 6_400_000_000 * 6_400_000_000 * p.share / p.unit

pub falls : (N : rules.Net) (p q : Pace) → Named N p → Named N q → p.share * q.unit < p.unit * q.share → below_slowest q < below_slowest p
falls N p q n m h = go 6_400_000_000 640_000 n.unit.1 m.unit.1 m.share.1
  where
    go : (Q D : ℕ) → p.unit ≤ Q → q.unit ≤ Q → q.share ≤ D → Q * Q * D - Q * Q * q.share / q.unit < Q * Q * D - Q * Q * p.share / p.unit
    go Q D hb hb' ha' =
        let r = rises Q p.share p.unit q.share q.unit n.unit.0 m.unit.0 hb' hb h in
        omega (arith, div-le_self (Q * Q * q.share) q.unit, mul-le-mul_left (Q * Q) ha')
