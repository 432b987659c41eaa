-- How rates are found: numbers for the stations, of which a 0 stands for a station that is not reached. Assumes nothing.
use Rattle.std.specs.Prelude.{◌≡◌, ℕ, zero, suc, ◌*◌, ◌/◌, ◌<◌, ◌≤◌, ◌⊎◌, List, [], ◌∷◌, length, Some, None, Option, ◌≢◌, slice_index}
use Rattle.handover.specs.Gcd.{gcd}
use Rattle.rules.specs.Net.{Link, Net, Open}
use Rattle.rules.specs.Rates.{Leads}
use Rattle.rates.specs.declared.Lead.{Lead}

-- What stands for station i.
abbrev pub number : List ℕ → ℕ → ℕ
number z i = slice_index z i

-- A number, where it is one of a station that is reached.
abbrev pub if_reached : ℕ → Option ℕ
if_reached zero = None
if_reached (suc n) = Some (suc n)

-- The numbers balance the link: as many parts arrive on it as leave it, in the long run.
abbrev pub Balance : Link → List ℕ → Type 0
Balance l z = number z l.i * l.v ≡ number z l.j * l.w

abbrev pub Balances : Net → List ℕ → Type 0
Balances N z = (k : ℕ) (l : Link) → Open N k l → Balance l z

-- Both ends are reached, and their numbers balance the link.
abbrev pub Balanced : Link → List ℕ → Type 0
Balanced l z = (1 ≤ number z l.i) × (1 ≤ number z l.j) × Balance l z

abbrev pub AllBalanced : Net → List ℕ → Type 0
AllBalanced N z = (k : ℕ) (l : Link) → Open N k l → Balanced l z

-- How many stations are not reached.
abbrev pub missing : List ℕ → ℕ
missing [] = 0
missing (zero ∷ xs) = suc (missing xs)
missing (suc x ∷ xs) = missing xs

-- The link followed one way, and the other.
abbrev pub along : Link → Lead
along l = record { from = l.i; to = l.j; produced = l.w; consumed = l.v }

abbrev pub against : Link → Lead
against l = record { from = l.j; to = l.i; produced = l.v; consumed = l.w }

abbrev pub Follows : Lead → Link → Type 0
Follows s l = (s ≡ along l) ⊎ (s ≡ against l)

-- Both are reached, or neither is.
abbrev pub Alike : ℕ → ℕ → Type 0
Alike a b = ((a ≡ 0) × (b ≡ 0)) ⊎ ((1 ≤ a) × (1 ≤ b))

-- The link as it leads from a station that is reached to one that is not, if it does.
abbrev pub OnwardBy : Link → List ℕ → Option Lead → Type 0
OnwardBy l z None = Alike (number z l.i) (number z l.j)
OnwardBy l z (Some s) = Follows s l × (1 ≤ number z s.from) × (number z s.to ≡ 0)

-- Some link that does; none only where no link does.
abbrev pub Onward : Net → List ℕ → Option Lead → Type 0
Onward N z None = (k : ℕ) (l : Link) → Open N k l → OnwardBy l z None
Onward N z (Some s) = (k : ℕ) × (l : Link) × Open N k l × OnwardBy l z (Some s)

-- The lowest station that is not reached, if there is one.
abbrev pub Lowest : ℕ → List ℕ → Option ℕ → Type 0
Lowest n z None = (y : ℕ) → y < n → 1 ≤ number z y
Lowest n z (Some y) = (y < n) × (number z y ≡ 0) × ((x : ℕ) → x < y → 1 ≤ number z x)

-- Every number times m; or one of them passes 10,000 so.
abbrev pub Scaled : List ℕ → ℕ → List ℕ → Option (Unit {0}) → Type 0
Scaled z m z' (Some _) = (length z' ≡ length z) × ((i : ℕ) → (number z' i ≡ number z i * m) × (number z' i ≤ 10_000))
Scaled z m z' None = (i : ℕ) × (10_000 < number z i * m)

-- To reach the station that s leads to, all numbers are multiplied by the factor, and the end is the number there.
abbrev pub parts : List ℕ → Lead → ℕ
parts z s = number z s.from * s.consumed

abbrev pub factor : List ℕ → Lead → ℕ
factor z s = s.produced / gcd (parts z s) s.produced

abbrev pub end : List ℕ → Lead → ℕ
end z s = parts z s / gcd (parts z s) s.produced

abbrev pub Reached : List ℕ → Lead → List ℕ → Option (Unit {0}) → Type 0
Reached z s z' (Some _) = (length z' ≡ length z) × (number z' s.to ≡ end z s) × ((i : ℕ) → (i ≢ s.to) → number z' i ≡ number z i * factor z s) × ((i : ℕ) → number z' i ≤ 10_000)
Reached z s z' None = (10_000 < end z s) ⊎ ((i : ℕ) × (10_000 < number z i * factor z s))

-- Links lead from station 0 to every station that is reached.
pub record Led (N : Net) (z : List ℕ) : Type 0 where
  pub many : length z ≡ 64
  pub begun : 1 ≤ number z 0
  pub led : (y : ℕ) → 1 ≤ number z y → Leads N 0 y

-- Whatever balances the links is a whole multiple of the numbers, at the stations that are reached.
pub record Part (N : Net) (z : List ℕ) : Type 0 where
  pub many : length z ≡ 64
  pub begun : 1 ≤ number z 0
  pub most : (i : ℕ) → number z i ≤ 10_000
  pub whole : (Y : List ℕ) → Balances N Y → (c : ℕ) × ((i : ℕ) → 1 ≤ number z i → number Y i ≡ c * number z i)
