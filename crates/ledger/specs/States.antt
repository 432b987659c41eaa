-- What a ledger holds, and what the calls make of it. A state is a net: durations, rates, pace, and open links by number. Assumes nothing.
use Rattle.std.specs.Prelude.{◌≡◌, ℕ, cond, List, [], ◌∷◌, map, replicate, Some, None, Option, nat_lt, slice_index, slice_set}
use Rattle.std.specs.List.{range_with_len}
use Rattle.rules.specs.Net.{Link, Net, Open, at_pace_lem}
use Rattle.rules.specs.Rates.{Rated}
use Rattle.nets.specs.Views.{of_link}
use Rattle.drafts.specs.Checks as drafts
use Rattle.texts.specs.NetText.{Entries, Text}
use Rattle.ledger.specs.Calls.{Source, entries, text, Setting, duration_to, stock_to, capacity_to, pace_to, Call, load, open_link, put, close, ask}

-- The new board: one station of duration 1 and rate 1, no link, pace 1 / 1. There are 128 link numbers, 0 to 127.
abbrev pub new_board : Net
new_board = record { durations = 1 ∷ []; rates = 1 ∷ []; A = 1; B = 1; links = replicate 128 None }

-- One value replaced, all else as it was.
abbrev pub with_duration : Net → ℕ → ℕ → Net
with_duration L i d = record { durations = slice_set L.durations i d; rates = L.rates; A = L.A; B = L.B; links = L.links }

-- A number opened with a link, or closed.
abbrev pub with_link : Net → ℕ → Option Link → Net
with_link L k o = record { durations = L.durations; rates = L.rates; A = L.A; B = L.B; links = slice_set L.links k o }

abbrev pub with_stock : Link → ℕ → Link
with_stock l u = record { i = l.i; j = l.j; w = l.w; v = l.v; u = u; c = l.c }

abbrev pub with_capacity : Link → Option ℕ → Link
with_capacity l c = record { i = l.i; j = l.j; w = l.w; v = l.v; u = l.u; c = c }

-- The numbers 0, 1, 2 and so on below n, and what f gives of them.
abbrev pub below : ℕ → List ℕ
below n = range_with_len 0 n

abbrev pub first : {X : Type 0} → ℕ → (ℕ → X) → List X
first n f = map f (below n)

-- A draft has as many durations as stations, and as many ends and terms as links; what a table lacks counts as 0. Entry k becomes link k.
abbrev pub entry_duration : Entries → ℕ → ℕ
entry_duration e k = slice_index e.durations k

abbrev pub entry_link : Entries → ℕ → Link
entry_link e k = of_link (drafts.entry_link e.ends e.terms k)

-- The draft's net, with the rates Z.
abbrev pub net_of : Entries → List ℕ → Net
net_of e Z = record {
  durations = first e.sizes.stations (entry_duration e);
  rates = Z;
  A = e.sizes.pace.share;
  B = e.sizes.pace.unit;
  links = first 128 (λ k. cond (nat_lt k e.sizes.links) (Some (entry_link e k)) None);
}

-- The draft's net before it has rates.
abbrev pub unrated : Entries → Net
unrated e = net_of e []

-- The entries that a source gives: those of the draft, or those that the text spells.
abbrev pub Gives : Source → Entries → Type 0
Gives (entries d) e = e ≡ d
Gives (text t) e = Text t e

-- What a setting makes of the state. One of a link asks that it is open.
abbrev pub AfterSetting : Net → Setting → Net → Type 0
AfterSetting L (duration_to i d) L' = L' ≡ with_duration L i d
AfterSetting L (stock_to k u) L' = (l : Link) × Open L k l × (L' ≡ with_link L k (Some (with_stock l u)))
AfterSetting L (capacity_to k c) L' = (l : Link) × Open L k l × (L' ≡ with_link L k (Some (with_capacity l c)))
AfterSetting L (pace_to A B) L' = L' ≡ at_pace_lem L A B

-- What a call makes of the state, where it is accepted. A load replaces all, with the rates of its net.
abbrev pub After : Net → Call → Net → Type 0
After L (load s n) L' = (e : Entries) × (Z : List ℕ) × Gives s e × Rated (net_of e Z) × (L' ≡ net_of e Z)
After L (open_link k l n) L' = L' ≡ with_link L k (Some l)
After L (put s n) L' = AfterSetting L s L'
After L (close k) L' = L' ≡ with_link L k None
After L (ask q) L' = L' ≡ L
