-- Joined nets and their rates. Assumes nothing.
use Rattle.std.specs.Prelude.{◌≡◌, ℕ, ◌*◌, ◌<◌, ◌≤◌, ◌⊎◌, List, length}
use Rattle.std.specs.Int.{◌∣◌}
use Rattle.rules.specs.Net.{Link, Net, stations, rate, Open}

-- The link has the stations x and y as its ends, one way round or the other.
abbrev pub Joins : Link → ℕ → ℕ → Type 0
Joins l x y = ((l.i ≡ x) × (l.j ≡ y)) ⊎ ((l.j ≡ x) × (l.i ≡ y))

-- Links, followed either way, lead from x to y: it is x itself, or one more link leads on from where links led.
pub data Leads (N : Net) : ℕ → ℕ → Type 0 where
  stay : {x y : ℕ} → x ≡ y → Leads N x y
  on : {x y : ℕ} (z k : ℕ) (l : Link) → Leads N x z → Open N k l → Joins l z y → Leads N x y

-- Links lead from station 0 to every station.
abbrev pub Joined : Net → Type 0
Joined N = (y : ℕ) → y < stations N → Leads N 0 y

-- Station y is the lowest one that links do not lead to.
pub record CutOff (N : Net) (y : ℕ) : Type 0 where
  pub station : y < stations N
  pub apart : Leads N 0 y → ⊥
  pub lowest : (x : ℕ) → x < y → Leads N 0 x

-- The rates of a net: whole numbers from 1 to 10,000, one for each station, with Z i * v = Z j * w on every link, and no common divisor above 1.
pub record Rated (N : Net) : Type 0 where
  pub complete : length N.rates ≡ stations N
  pub least : (i : ℕ) → i < stations N → 1 ≤ rate N i
  pub most : (i : ℕ) → i < stations N → rate N i ≤ 10_000
  pub balanced : (k : ℕ) (l : Link) → Open N k l → rate N l.i * l.v ≡ rate N l.j * l.w
  pub reduced : (d : ℕ) → ((i : ℕ) → i < stations N → d ∣ rate N i) → d ≤ 1

-- The same net with other rates.
abbrev pub with_rates : Net → List ℕ → Net
with_rates N Z = record { durations = N.durations; rates = Z; A = N.A; B = N.B; links = N.links }

-- No numbers are the net's rates.
abbrev pub NoRates : Net → Type 0
NoRates N = (Z : List ℕ) → Rated (with_rates N Z) → ⊥
