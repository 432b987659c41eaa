-- The checks of a filled draft, over all its entries again, and the net that it makes. Assumes nothing.
use Rattle.std.specs.Prelude.{◌≡◌, ℕ, suc, cond, List, [], ◌∷◌, length, take, replicate, Some, None, Ok, Err, Option, Result, nat_lt, slice_index_or}
use Rattle.nets.specs.declared.LinkEnds.{LinkEnds}
use Rattle.nets.specs.declared.LinkTerms.{LinkTerms}
use Rattle.nets.specs.declared.Link.{Link}
use Rattle.nets.specs.declared.Net.{Net}
use Rattle.nets.specs.declared.checked.CheckedNet.{CheckedNet}
use Rattle.drafts.specs.declared.stage.NetSizes.{NetSizes}
use Rattle.drafts.specs.declared.tables.Tables.{Tables}
use Rattle.drafts.specs.declared.fault.DraftFault.{DraftFault}
use Rattle.drafts.specs.Faults.{or_else}
use Rattle.drafts.specs.Entries.{sizes_fault, duration_fault, ends_fault, terms_fault, room_fault}

-- The first fault of a list of entries, which are numbered from k on.
abbrev pub first_fault : {X : Type 0} → (ℕ → X → Option DraftFault) → ℕ → List X → Option DraftFault
first_fault f k [] = None
first_fault f k (x ∷ xs) = or_else (f k x) (first_fault f (suc k) xs)

abbrev pub durations_fault : List ℕ → Option DraftFault
durations_fault ds = first_fault (λ k d. duration_fault d) 0 ds

abbrev pub all_ends_fault : ℕ → List LinkEnds → Option DraftFault
all_ends_fault stations es = first_fault (λ k e. ends_fault stations e) 0 es

abbrev pub all_terms_fault : List LinkTerms → Option DraftFault
all_terms_fault ts = first_fault (λ k t. terms_fault t) 0 ts

abbrev pub rooms_fault : List LinkTerms → Option DraftFault
rooms_fault ts = first_fault room_fault 0 ts

-- The first number out of range, of the sizes, the durations, the ends and the terms, in this order; where there is none, the lowest link whose capacity is below its stock.
abbrev pub draft_fault : NetSizes → Tables → Option DraftFault
draft_fault s t =
    or_else (sizes_fault s)
    (or_else (durations_fault (take s.stations t.durations))
    (or_else (all_ends_fault s.stations (take s.links t.ends))
    (or_else (all_terms_fault (take s.links t.terms))
    (rooms_fault (take s.links t.terms)))))

-- Entry k becomes link k, and no other number is open.
abbrev pub no_ends : LinkEnds
no_ends = record { from = 0; to = 0 }

abbrev pub no_terms : LinkTerms
no_terms = record { produced = 0; consumed = 0; stock = 0; capacity = None }

abbrev pub entry_link : List LinkEnds → List LinkTerms → ℕ → Link
entry_link es ts k = record { ends = slice_index_or es k no_ends; terms = slice_index_or ts k no_terms }

abbrev pub entry_slot : ℕ → List LinkEnds → List LinkTerms → ℕ → Option Link
entry_slot links es ts k = cond (nat_lt k links) (Some (entry_link es ts k)) None

-- The tables have their lengths.
pub record WholeTables (t : Tables) : Type 0 where
  pub durations : length t.durations ≡ 64
  pub ends : length t.ends ≡ 128
  pub terms : length t.terms ≡ 128

-- The net of a draft; it has no rates yet.
pub record DraftNet (s : NetSizes) (t : Tables) (N : Net) : Type 0 where
  pub stations : N.stations ≡ s.stations
  pub durations : N.durations ≡ t.durations
  pub unrated : N.rates ≡ replicate 64 0
  pub numbers : length N.links ≡ 128
  pub links : (k : ℕ) → slice_index_or N.links k None ≡ entry_slot s.links t.ends t.terms k
  pub pace : N.pace ≡ s.pace

-- The draft's net, where no check fails; else the first fault.
abbrev pub Checks : NetSizes → Tables → Result CheckedNet DraftFault → Type 0
Checks s t (Ok c) = (draft_fault s t ≡ None) × DraftNet s t c.net
Checks s t (Err f) = draft_fault s t ≡ Some f
