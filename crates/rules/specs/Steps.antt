-- Steps, chains and circuits. Assumes nothing.
use Rattle.std.specs.Prelude.{◌≡◌, ℕ, ◌+◌, ◌-◌, ◌*◌, ◌/◌, ◌<◌, ◌⊎◌, List, [], ◌∷◌, map, ℤ, pos, ◌+ℤ◌, ◌-ℤ◌, ◌*ℤ◌, neg_ℤ, ◌≤ℤ◌, ◌<ℤ◌, Some, None, Option, slice_index_or}
use Rattle.handover.specs.Gcd.{gcd}
use Rattle.handover.specs.Once.{Once}
use Rattle.rules.specs.Net.{Link, Net, Timetable, stations, duration, rate, start, Open}

-- Each link has a step forward, each link with a capacity has a step back, and each station has a step of its own.
pub data Step : Type 0 where
  forward : ℕ → Step
  back : ℕ → Step
  own : ℕ → Step

abbrev pub Has : Net → Step → Type 0
Has N (forward k) = (l : Link) × Open N k l
Has N (back k) = (l : Link) × (c : ℕ) × Open N k l × (l.c ≡ Some c)
Has N (own i) = i < stations N

-- The link of an open number, and a capacity where there is one.
abbrev pub or_else : {X : Type 0} → X → Option X → X
or_else x None = x
or_else x (Some y) = y

abbrev pub no_link : Link
no_link = record { i = 0; j = 0; w = 0; v = 0; u = 0; c = None }

abbrev pub link : Net → ℕ → Link
link N k = or_else no_link (slice_index_or N.links k None)

-- The station that a step leads from, and the one that it leads to.
abbrev pub leads_from : Net → Step → ℕ
leads_from N (forward k) = (link N k).i
leads_from N (back k) = (link N k).j
leads_from N (own i) = i

abbrev pub leads_to : Net → Step → ℕ
leads_to N (forward k) = (link N k).j
leads_to N (back k) = (link N k).i
leads_to N (own i) = i

-- Shares on a link come in grains: the gcd d of the rates of i and j. Parts on it count in whole multiples of the gcd g of w and v,
-- and each multiple is worth a grain: n parts are worth d times the whole part of n / g.
abbrev pub grain : Net → Link → ℕ
grain N l = gcd (rate N l.i) (rate N l.j)

abbrev pub worth : Net → Link → ℕ → ℕ
worth N l n = n / gcd l.w l.v * grain N l

-- A step's pair is its shares and its time.
-- Forward, the shares are the rate of j less what the stock u is worth, less a grain; back, the rate of i less what the free room c - u is worth, less a grain;
-- of its own, the rate of the station taken away. The time is the duration of the station that the step leads from.
abbrev pub shares : Net → Step → ℤ
shares N (forward k) = let l = link N k in pos (rate N l.j) -ℤ pos (worth N l l.u) -ℤ pos (grain N l)
shares N (back k) = let l = link N k in pos (rate N l.i) -ℤ pos (worth N l (or_else 0 l.c - l.u)) -ℤ pos (grain N l)
shares N (own i) = neg_ℤ (pos (rate N i))

abbrev pub time : Net → Step → ℕ
time N s = duration N (leads_from N s)

-- A step's length in ticks: B ticks for each time unit of its time, and A ticks for each of its shares.
abbrev pub ticks : Net → Step → ℤ
ticks N s = pos (N.B * time N s) +ℤ pos N.A *ℤ shares N s

-- The timetable keeps the step: where it leads to starts no sooner than its length after where it leads from.
abbrev pub Kept : Net → Timetable → Step → Type 0
Kept N T s = (pos (start T (leads_from N s)) +ℤ pos T.scale *ℤ ticks N s) ≤ℤ pos (start T (leads_to N s))

-- A chain of steps of the net from station x to station y: each begins where the last one ended. The empty chain stays where it is.
abbrev pub Chain : Net → ℕ → List Step → ℕ → Type 0
Chain N x [] y = x ≡ y
Chain N x (s ∷ c) y = Has N s × (leads_from N s ≡ x) × Chain N (leads_to N s) c y

-- Lengths and pairs are joined by adding.
abbrev pub ticks_of : Net → List Step → ℤ
ticks_of N [] = pos 0
ticks_of N (s ∷ c) = ticks N s +ℤ ticks_of N c

abbrev pub shares_of : Net → List Step → ℤ
shares_of N [] = pos 0
shares_of N (s ∷ c) = shares N s +ℤ shares_of N c

abbrev pub time_of : Net → List Step → ℕ
time_of N [] = 0
time_of N (s ∷ c) = time N s + time_of N c

-- A circuit: a closed chain that comes to no station twice.
pub record Circuit (N : Net) (c : List Step) : Type 0 where
  pub closed : (x : ℕ) × Chain N x c x
  pub once : Once (map (leads_to N) c)

-- The pair of shares and time is above (0, 0), shares first.
abbrev pub PairAbove : ℤ → ℕ → Type 0
PairAbove a b = (pos 0 <ℤ a) ⊎ ((a ≡ pos 0) × (0 < b))

-- Some circuit is above zero, in ticks, and by its pair.
abbrev pub CircuitAbove : Net → Type 0
CircuitAbove N = (c : List Step) × Circuit N c × (pos 0 <ℤ ticks_of N c)

abbrev pub PairCircuit : Net → Type 0
PairCircuit N = (c : List Step) × Circuit N c × PairAbove (shares_of N c) (time_of N c)

-- The pair (a, b) is at most (a', b'), shares first.
abbrev pub PairAtMost : ℤ → ℤ → ℤ → ℤ → Type 0
PairAtMost a b a' b' = (a <ℤ a') ⊎ ((a ≡ a') × (b ≤ℤ b'))
