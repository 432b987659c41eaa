-- The net text: four lines, the sizes and the pace, the durations, the links' ends, and their terms.
use Rattle.std.specs.Prelude.{◌≡◌, ℕ, List, [], ◌∷◌, ◌++◌, length, Some, None, codes, Option}
use Rattle.nets.specs.declared.LinkEnds.{LinkEnds}
use Rattle.nets.specs.declared.LinkTerms.{LinkTerms}
use Rattle.drafts.specs.declared.stage.NetSizes.{NetSizes}
use Rattle.drafts.specs.declared.fault.DraftFault.{DraftFault}
use Rattle.drafts.specs.Faults.{or_else, range_fault, station_fault}
use Rattle.drafts.specs.Entries.{below_stock}
use Rattle.forms.specs.Form.{Verdict, fine, out, Outcome}
use Rattle.forms.specs.Pieces.{Piece, byte, num, spelling}
use Rattle.forms.specs.Lines.{letters, line_pieces}
use Rattle.forms.specs.Texts as texts

-- what a net text tells; the numbers may have any size
pub record Entries : Type 0 where
  pub sizes : NetSizes
  pub durations : List ℕ
  pub ends : List LinkEnds
  pub terms : List LinkTerms

-- as many entries as the sizes say
pub record Whole (e : Entries) : Type 0 where
  pub stations : length e.durations ≡ e.sizes.stations
  pub links : length e.ends ≡ e.sizes.links
  pub terms : length e.terms ≡ e.sizes.links

-- a number is fine where the draft has no fault of it
abbrev pub verdict : Option DraftFault → Verdict DraftFault
verdict None = fine
verdict (Some f) = out f

-- a number of which the draft may have a fault
abbrev pub number : (ℕ → Option DraftFault) → ℕ → Piece DraftFault
number fault v = num v (verdict (fault v))

-- `net N M A B`
abbrev pub sizes_pieces : NetSizes → List (Piece DraftFault)
sizes_pieces s =
    letters (codes "net") ++ byte 32 ∷ number (range_fault 1 1 64) s.stations ∷ byte 32 ∷ number (range_fault 2 0 128) s.links
    ∷ byte 32 ∷ number (range_fault 3 1 1_000_000) s.pace.share ∷ byte 32 ∷ number (range_fault 4 1 10_000_000_000) s.pace.unit ∷ byte 10 ∷ []

-- one duration
abbrev pub duration_pieces : ℕ → List (Piece DraftFault)
duration_pieces d = number (range_fault 1 1 10_000) d ∷ []

-- `i>j`, two of n stations
abbrev pub ends_pieces : ℕ → LinkEnds → List (Piece DraftFault)
ends_pieces n e = number (station_fault 1 n) e.from ∷ byte 62 ∷ number (station_fault 2 n) e.to ∷ []

-- a capacity has its range, and is then not below the stock
abbrev pub room_fault : ℕ → ℕ → ℕ → Option DraftFault
room_fault link stock c = or_else (range_fault 4 0 10_000 c) (below_stock link stock (Some c))

-- a dash stands for no capacity
abbrev pub capacity_piece : ℕ → ℕ → Option ℕ → Piece DraftFault
capacity_piece link stock None = byte 45
capacity_piece link stock (Some c) = number (room_fault link stock) c

-- `w:v:u:c`, the terms of the link of this number
abbrev pub terms_pieces : ℕ → LinkTerms → List (Piece DraftFault)
terms_pieces link t =
    number (range_fault 1 1 1_000) t.produced ∷ byte 58 ∷ number (range_fault 2 1 1_000) t.consumed ∷ byte 58
    ∷ number (range_fault 3 0 10_000) t.stock ∷ byte 58 ∷ capacity_piece link t.stock t.capacity ∷ []

-- the four lines
abbrev pub pieces : Entries → List (Piece DraftFault)
pieces e =
    sizes_pieces e.sizes
    ++ (line_pieces (codes "dur") (λ i. duration_pieces) e.durations
    ++ (line_pieces (codes "ends") (λ i. ends_pieces e.sizes.stations) e.ends
    ++ line_pieces (codes "terms") terms_pieces e.terms))

-- the text of entries
abbrev pub text_of : Entries → List ℕ
text_of e = spelling (pieces e)

-- t is the text of e, which is whole, and each of whose numbers is fine
abbrev pub Text : List ℕ → Entries → Type 0
Text t e = texts.Text Whole pieces t e

-- the text goes along with a net text up to a number that begins at p and is refused with this fault
abbrev pub Refused : List ℕ → DraftFault → ℕ → Type 0
Refused t f p = texts.Refused Whole pieces t f p

-- p is the first byte at which the text leaves the form
abbrev pub Broken : List ℕ → ℕ → Type 0
Broken t p = texts.Broken Whole pieces t p

-- what an outcome says of a text
abbrev pub Right : List ℕ → Outcome DraftFault Entries → Type 0
Right t o = texts.Right Whole pieces t o
