-- The ranges of a net, and how large its lengths and its fastest pace can be. Assumes nothing.
use Rattle.std.specs.Prelude.{◌≡◌, ℕ, ◌*◌, ◌<◌, ◌≤◌, List, length, ℤ, Some, unsigned_abs}
use Rattle.rules.specs.Net.{Link, Net, stations, duration, rate, Open, Sound}
use Rattle.rules.specs.Steps.{Step, Has, shares, time, ticks, shares_of, time_of, ticks_of, Chain}
use Rattle.rules.specs.Paces.{Fastest}
use Rattle.rules.specs.Rates.{Rated}

pub record LinkInRange (l : Link) : Type 0 where
  pub arrive : l.w ≤ 1_000
  pub leave : l.v ≤ 1_000
  pub stock : l.u ≤ 10_000
  pub room : (c : ℕ) → l.c ≡ Some c → c ≤ 10_000

pub record InRange (N : Net) : Type 0 where
  pub some : 1 ≤ stations N
  pub few : stations N ≤ 64
  pub numbers : length N.links ≤ 128
  pub lasting : (i : ℕ) → i < stations N → duration N i ≤ 10_000
  pub recurring : (i : ℕ) → i < stations N → rate N i ≤ 10_000
  pub share : N.A ≤ 1_000_000
  pub unit : N.B ≤ 10_000_000_000
  pub linked : (k : ℕ) (l : Link) → Open N k l → LinkInRange l

-- What is asked of a net before it has rates: its numbers lie in their ranges, the ends of a link are stations, and no stock is above its capacity.
pub record CheckedLink (N : Net) (l : Link) : Type 0 where
  pub from_station : l.i < stations N
  pub to_station : l.j < stations N
  pub gives : 1 ≤ l.w
  pub arrive : l.w ≤ 1_000
  pub takes : 1 ≤ l.v
  pub leave : l.v ≤ 1_000
  pub stock : l.u ≤ 10_000
  pub room : (c : ℕ) → l.c ≡ Some c → (c ≤ 10_000) × (l.u ≤ c)

pub record Checked (N : Net) : Type 0 where
  pub some : 1 ≤ stations N
  pub few : stations N ≤ 64
  pub numbers : length N.links ≤ 128
  pub lasting : (i : ℕ) → i < stations N → (1 ≤ duration N i) × (duration N i ≤ 10_000)
  pub share : (1 ≤ N.A) × (N.A ≤ 1_000_000)
  pub unit : (1 ≤ N.B) × (N.B ≤ 10_000_000_000)
  pub linked : (k : ℕ) (l : Link) → Open N k l → CheckedLink N l

-- The largest size of a step's shares, time and ticks.
pub record Sized (a : ℤ) (t : ℕ) (n : ℤ) (times : ℕ) : Type 0 where
  pub shares : unsigned_abs a ≤ times * 100_000_000
  pub time : t ≤ times * 10_000
  pub ticks : unsigned_abs n ≤ times * 100_010_000_000_000

-- No chain of n steps passes n times these.
abbrev pub StepsSized : Type 0
StepsSized = (N : Net) → Sound N → InRange N → (s : Step) → Has N s → Sized (shares N s) (time N s) (ticks N s) 1

abbrev pub ChainsSized : Type 0
ChainsSized = (N : Net) → Sound N → InRange N → (x y : ℕ) (c : List Step) → Chain N x c y → Sized (shares_of N c) (time_of N c) (ticks_of N c) (length c)

-- The fastest pace lies within the range of paces.
abbrev pub FastestInRange : Type 0
FastestInRange = (N : Net) → Sound N → InRange N → (A B : ℕ) → Fastest N A B → (A ≤ 640_000) × (B ≤ 6_400_000_000)

-- With its rates a checked net is sound and in range.
abbrev pub RatesSound : Type 0
RatesSound = (N : Net) → Checked N → Rated N → Sound N × InRange N
