-- Links as they are followed, and what they lead to. Assumes nothing.
use Rattle.std.proofs.Common.{◌≡◌, ℕ, ◌*◌, ◌/◌, ◌<◌, ◌≤◌, ◌⊎◌, List, length, Some, None, sym, ap, subst, inl, inr, arith}
use Rattle.std.proofs.lemmas.Bool.{cases_eq}
use Rattle.handover.specs.Gcd.{gcd}
use Rattle.handover.proofs.Positive.{left_pos}
use Rattle.handover.proofs.Rates.{whole_right}
use Rattle.rules.specs.Net.{Link, Net, stations, Open}
use Rattle.rules.specs.Ranges.{Checked}
use Rattle.rules.specs.Rates.{Joins, Leads, stay, on}
use Rattle.rates.specs.declared.Lead.{Lead}
use Rattle.rates.specs.Reaching.{number, Balances, Follows, Alike, Onward, Led}

-- a gcd with a number that is not 0 is not 0
pub gcd_pos_right : (a b : ℕ) → 1 ≤ b → 1 ≤ gcd a b
gcd_pos_right a b h = left_pos (gcd a b) (b / gcd a b) (omega (arith, whole_right a b))

-- at least 1 part either way
pub record Terms (s : Lead) : Type 0 where
  pub gives : 1 ≤ s.produced
  pub takes : 1 ≤ s.consumed

-- an open link, one way or the other
module _ (N : Net) (k : ℕ) (l : Link) (o : Open N k l) (s : Lead) where
  pub ends_of : Checked N → Follows s l → (s.from < stations N) × (s.to < stations N)
  ends_of C (inl e) = let K = C.linked k l o in subst (λ t. (t.from < stations N) × (t.to < stations N)) (sym e) (K.from_station, K.to_station)
  ends_of C (inr e) = let K = C.linked k l o in subst (λ t. (t.from < stations N) × (t.to < stations N)) (sym e) (K.to_station, K.from_station)

  pub terms_of : Checked N → Follows s l → Terms s
  terms_of C (inl e) = let K = C.linked k l o in subst Terms (sym e) (record { gives = K.gives; takes = K.takes })
  terms_of C (inr e) = let K = C.linked k l o in subst Terms (sym e) (record { gives = K.takes; takes = K.gives })

  pub balance_of : (Y : List ℕ) → Balances N Y → Follows s l → number Y s.from * s.consumed ≡ number Y s.to * s.produced
  balance_of Y B (inl e) = subst (λ t. number Y t.from * t.consumed ≡ number Y t.to * t.produced) (sym e) (B k l o)
  balance_of Y B (inr e) = subst (λ t. number Y t.from * t.consumed ≡ number Y t.to * t.produced) (sym e) (sym (B k l o))

  pub joins_of : Follows s l → Joins l s.from s.to
  joins_of (inl e) = inl (sym (ap (λ t. t.from) e), sym (ap (λ t. t.to) e))
  joins_of (inr e) = inr (sym (ap (λ t. t.from) e), sym (ap (λ t. t.to) e))

module _ (N : Net) (C : Checked N) (z : List ℕ) (s : Lead) where
  pub lead_in : Onward N z (Some s) → (s.from < 64) × (s.to < 64)
  lead_in (k, l, o, (way, from, to)) = let e = ends_of N k l o s C way in let few = C.few in (omega (arith, e.0), omega (arith, e.1))

  pub lead_gives : Onward N z (Some s) → 1 ≤ s.produced
  lead_gives (k, l, o, (way, from, to)) = (terms_of N k l o s C way).gives

-- where no link leads on, links lead only to stations that are reached
alike_right : (a b : ℕ) → Alike a b → 1 ≤ a → 1 ≤ b
alike_right a b (inl p) h = absurd (omega arith)
alike_right a b (inr p) h = p.1

alike_left : (a b : ℕ) → Alike a b → 1 ≤ b → 1 ≤ a
alike_left a b (inl p) h = absurd (omega arith)
alike_left a b (inr p) h = p.0

pub led_reached : (N : Net) (z : List ℕ) → Onward N z None → (x y : ℕ) → Leads N x y → 1 ≤ number z x → 1 ≤ number z y
led_reached N z c x y (stay e) h = subst (λ t. 1 ≤ number z t) e h
led_reached N z c x y (on t k l p o (inl (ei, ej))) h =
    let r = led_reached N z c x t p h in
    subst (λ s. 1 ≤ number z s) ej (alike_right _ _ (c k l o) (subst (λ s. 1 ≤ number z s) (sym ei) r))
led_reached N z c x y (on t k l p o (inr (ej, ei))) h =
    let r = led_reached N z c x t p h in
    subst (λ s. 1 ≤ number z s) ei (alike_left _ _ (c k l o) (subst (λ s. 1 ≤ number z s) (sym ej) r))

-- one more station is led to
pub led_more : (N : Net) (z z' : List ℕ) (s : Lead) → Led N z → Onward N z (Some s) → length z' ≡ 64 → ((i : ℕ) → 1 ≤ number z i → 1 ≤ number z' i) →
    ((i : ℕ) → (i ≡ s.to → ⊥) → 1 ≤ number z' i → 1 ≤ number z i) → Led N z'
led_more N z z' s L (k, l, o, (way, from, to)) m up down =
    record {
      many = m;
      begun = up 0 L.begun;
      led = λ y h. at y h (cases_eq y s.to);
    }
  where
    at : (y : ℕ) → 1 ≤ number z' y → (y ≡ s.to) ⊎ (y ≡ s.to → ⊥) → Leads N 0 y
    at y h (inl e) = subst (λ t. Leads N 0 t) (sym e) (on s.from k l (L.led s.from from) o (joins_of N k l o s way))
    at y h (inr e) = L.led y (down y e h)
