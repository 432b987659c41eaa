-- The ranges of numbers, and the numbers of each call in their order. Assumes nothing.
use Rattle.std.specs.Prelude.{◌≡◌, ℕ, ◌-◌, ◌<◌, ◌⊎◌, List, [], ◌∷◌, ◌++◌, Some, None, Option}
use Rattle.std.specs.List.{flat_map}
use Rattle.rules.specs.Net.{Net, stations}
use Rattle.texts.specs.NetText.{Entries}
use Rattle.ledger.specs.Calls.{Setting, duration_to, stock_to, capacity_to, pace_to, Question, start_of, period_of, stock_at, taken_at, link_at, duration_of, rate_of, pace_held, pace_fastest, timetable_shown, Call, load, open_link, close, put, ask}
use Rattle.ledger.specs.States.{below, first, entry_duration, entry_link, Gives}

-- A number, which one it is of its call or entry, and its range.
pub record Number : Type 0 where
  pub which : ℕ
  pub value : ℕ
  pub low : ℕ
  pub high : ℕ

abbrev pub Out : Number → Type 0
Out n = (n.value < n.low) ⊎ (n.high < n.value)

-- The first of these numbers that is out of range is its call's or entry's number p.
abbrev pub FirstOut : List Number → ℕ → Type 0
FirstOut [] p = ⊥
FirstOut (n ∷ ns) p = (Out n × (p ≡ n.which)) ⊎ ((Out n → ⊥) × FirstOut ns p)

-- The ranges. A station is one of n, numbered from 0.
abbrev pub a_station : ℕ → ℕ → ℕ → Number
a_station n which i = record { which = which; value = i; low = 0; high = n - 1 }

abbrev pub a_link : ℕ → ℕ → Number
a_link which k = record { which = which; value = k; low = 0; high = 127 }

abbrev pub a_duration : ℕ → ℕ → Number
a_duration which d = record { which = which; value = d; low = 1; high = 10_000 }

abbrev pub a_batch : ℕ → ℕ → Number
a_batch which w = record { which = which; value = w; low = 1; high = 1_000 }

abbrev pub a_stock : ℕ → ℕ → Number
a_stock which u = record { which = which; value = u; low = 0; high = 10_000 }

abbrev pub a_capacity : ℕ → Option ℕ → List Number
a_capacity which None = []
a_capacity which (Some c) = record { which = which; value = c; low = 0; high = 10_000 } ∷ []

abbrev pub a_share : ℕ → ℕ → Number
a_share which A = record { which = which; value = A; low = 1; high = 1_000_000 }

abbrev pub a_unit : ℕ → ℕ → Number
a_unit which B = record { which = which; value = B; low = 1; high = 10_000_000_000 }

abbrev pub a_tick : ℕ → ℕ → Number
a_tick which t = record { which = which; value = t; low = 0; high = 1_000_000_000_000_000 }

-- The numbers of a draft: its sizes and pace, then the durations, then the ends, then the terms. Each entry counts its own numbers from 1.
abbrev pub sizes_numbers : Entries → List Number
sizes_numbers e =
    record { which = 1; value = e.sizes.stations; low = 1; high = 64 } ∷ record { which = 2; value = e.sizes.links; low = 0; high = 128 }
    ∷ a_share 3 e.sizes.pace.share ∷ a_unit 4 e.sizes.pace.unit ∷ []

abbrev pub ends_numbers : Entries → ℕ → List Number
ends_numbers e k = let l = entry_link e k in a_station e.sizes.stations 1 l.i ∷ a_station e.sizes.stations 2 l.j ∷ []

abbrev pub terms_numbers : Entries → ℕ → List Number
terms_numbers e k = let l = entry_link e k in a_batch 1 l.w ∷ a_batch 2 l.v ∷ a_stock 3 l.u ∷ a_capacity 4 l.c

abbrev pub draft_numbers : Entries → List Number
draft_numbers e =
    sizes_numbers e
    ++ (first e.sizes.stations (λ k. a_duration 1 (entry_duration e k))
    ++ (flat_map (ends_numbers e) (below e.sizes.links) ++ flat_map (terms_numbers e) (below e.sizes.links)))

-- The numbers of each call, in its order.
abbrev pub setting_numbers : Net → Setting → List Number
setting_numbers L (duration_to i d) = a_station (stations L) 1 i ∷ a_duration 2 d ∷ []
setting_numbers L (stock_to k u) = a_link 1 k ∷ a_stock 2 u ∷ []
setting_numbers L (capacity_to k c) = a_link 1 k ∷ a_capacity 2 c
setting_numbers L (pace_to A B) = a_share 1 A ∷ a_unit 2 B ∷ []

abbrev pub question_numbers : Net → Question → List Number
question_numbers L (start_of i) = a_station (stations L) 1 i ∷ []
question_numbers L (period_of i) = a_station (stations L) 1 i ∷ []
question_numbers L (stock_at k t) = a_link 1 k ∷ a_tick 2 t ∷ []
question_numbers L (taken_at k t) = a_link 1 k ∷ a_tick 2 t ∷ []
question_numbers L (link_at k) = a_link 1 k ∷ []
question_numbers L (duration_of i) = a_station (stations L) 1 i ∷ []
question_numbers L (rate_of i) = a_station (stations L) 1 i ∷ []
question_numbers L pace_held = []
question_numbers L pace_fastest = []
question_numbers L timetable_shown = []

-- The call has these numbers.
abbrev pub Numbers : Net → Call → List Number → Type 0
Numbers L (load s n) ns = (e : Entries) × Gives s e × (ns ≡ draft_numbers e)
Numbers L (open_link k l n) ns = ns ≡ a_link 1 k ∷ a_station (stations L) 2 l.i ∷ a_station (stations L) 3 l.j ∷ a_batch 4 l.w ∷ a_batch 5 l.v ∷ a_stock 6 l.u ∷ a_capacity 7 l.c
Numbers L (put s n) ns = ns ≡ setting_numbers L s
Numbers L (close k) ns = ns ≡ a_link 1 k ∷ []
Numbers L (ask q) ns = ns ≡ question_numbers L q
