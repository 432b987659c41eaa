-- What a timetable must keep. Instants are counted in the timetable's own fraction of a tick. Assumes nothing.
use Rattle.std.specs.Prelude.{◌≡◌, ℕ, ◌+◌, ◌-◌, ◌*◌, ◌<◌, ◌≤◌, List, ℤ, pos, ◌-ℤ◌, Some, slice_index}
use Rattle.handover.specs.Supply.{count}
use Rattle.rules.specs.Net.{Link, Net, Timetable, stations, duration, rate, start, Open, Fits, whole, at_pace_lem}

-- From one firing of a station to its next, and from a firing's begin to its end.
abbrev pub period : Net → Timetable → ℕ → ℕ
period N T i = T.scale * N.A * rate N i

abbrev pub lasts : Net → Timetable → ℕ → ℕ
lasts N T i = T.scale * N.B * duration N i

-- Firing q of station i, for q = 1, 2, 3 and so on.
abbrev pub begins : Net → Timetable → ℕ → ℕ → ℕ
begins N T i q = start T i + (q - 1) * period N T i

abbrev pub ends : Net → Timetable → ℕ → ℕ → ℕ
ends N T i q = begins N T i q + lasts N T i

-- How many firings of station i have begun, and how many have ended, by t.
abbrev pub begun : Net → Timetable → ℕ → ℕ → ℕ
begun N T i t = count (start T i) (period N T i) t

abbrev pub ended : Net → Timetable → ℕ → ℕ → ℕ
ended N T i t = count (start T i + lasts N T i) (period N T i) t

-- The stock of a link and its taken space at t.
abbrev pub stock : Net → Timetable → Link → ℕ → ℤ
stock N T l t = pos (l.u + l.w * ended N T l.i t) -ℤ pos (l.v * begun N T l.j t)

abbrev pub taken : Net → Timetable → Link → ℕ → ℤ
taken N T l t = pos (l.u + l.w * begun N T l.i t) -ℤ pos (l.v * ended N T l.j t)

-- No stock is ever below 0: what has left is at most what was there and what has arrived.
abbrev pub Stocked : Net → Timetable → Type 0
Stocked N T = (k : ℕ) (l : Link) → Open N k l → (t : ℕ) → l.v * begun N T l.j t ≤ l.u + l.w * ended N T l.i t

-- No taken space is ever above the capacity, where there is one.
abbrev pub Spaced : Net → Timetable → Type 0
Spaced N T = (k : ℕ) (l : Link) (c : ℕ) → Open N k l → l.c ≡ Some c → (t : ℕ) → l.u + l.w * begun N T l.i t ≤ c + l.v * ended N T l.j t

-- No firing begins before the station's last firing has ended.
abbrev pub Apart : Net → Timetable → Type 0
Apart N T = (i q : ℕ) → i < stations N → 1 ≤ q → ends N T i q ≤ begins N T i (q + 1)

pub record Keeps (N : Net) (T : Timetable) : Type 0 where
  pub stocked : Stocked N T
  pub spaced : Spaced N T
  pub apart : Apart N T

-- Some timetable, in some fraction of a tick, keeps the rules; and none does in any fraction.
abbrev pub HasTimetable : Net → Type 0
HasTimetable N = (T : Timetable) × Fits N T × Keeps N T

abbrev pub NoTimetable : Net → Type 0
NoTimetable N = (T : Timetable) → Fits N T → Keeps N T → ⊥

-- Some pace has a timetable; and none has.
abbrev pub SomePace : Net → Type 0
SomePace N = (A : ℕ) × (B : ℕ) × (1 ≤ A) × (1 ≤ B) × HasTimetable (at_pace_lem N A B)

abbrev pub NoPace : Net → Type 0
NoPace N = (A B : ℕ) → 1 ≤ A → 1 ≤ B → NoTimetable (at_pace_lem N A B)

-- Starts in whole ticks that keep the rules, and no timetable, in any fraction of a tick, starts any station earlier.
pub record Least (N : Net) (starts : List ℕ) : Type 0 where
  pub fits : Fits N (whole starts)
  pub keeps : Keeps N (whole starts)
  pub least : (T : Timetable) → Fits N T → Keeps N T → (y : ℕ) → y < stations N → T.scale * slice_index starts y ≤ start T y
