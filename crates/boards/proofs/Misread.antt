-- A text at fault is refused with 1, 2 or 5. Assumes nothing.
use Rattle.std.proofs.Common.{ℕ, suc, Bool, true, false, cond, ltb, leb, List, [], ◌∷◌, ◌++◌, Some, None, codes, Option, subst}
use Rattle.rules.specs.Net.{Net}
use Rattle.nets.specs.declared.LinkEnds.{LinkEnds}
use Rattle.nets.specs.declared.LinkTerms.{LinkTerms}
use Rattle.drafts.specs.declared.fault.DraftFault.{DraftFault}
use Rattle.drafts.specs.declared.fault.DraftFault.TheVariants.{Range, Missing, PastSize, Capacity}
use Rattle.drafts.specs.Faults.{or_else, outside, range_fault, station_fault}
use Rattle.drafts.specs.Entries.{below_stock}
use Rattle.forms.specs.Form.{Verdict, fine, out}
use Rattle.forms.specs.Pieces.{Piece, byte, num}
use Rattle.forms.specs.Lines.{letters, each, line_pieces}
use Rattle.texts.specs.declared.fault.TextFault.{TextFault}
use Rattle.texts.specs.declared.fault.TextFault.TheVariants.{Form, Draft}
use Rattle.texts.specs.Faults.{said}
use Rattle.texts.specs.NetText.{Entries, verdict, number, sizes_pieces, duration_pieces, ends_pieces, capacity_piece, terms_pieces, room_fault, pieces, Right, Refused}
use Rattle.ledger.specs.Calls.{text, load}
use Rattle.ledger.specs.Runs.{Answered}
use Rattle.ledger.proofs.Outcomes.{misread_form, misread_number, misread_room}
use Rattle.boards.specs.Answering.{number_answer, misread_answer}

-- A fault of a number: it is out of range, or a capacity below its stock
abbrev OfNumber : DraftFault → Type 0
OfNumber (Range w) = Unit {0}
OfNumber (Capacity k) = Unit {0}
OfNumber (Missing h) = ⊥
OfNumber (PastSize s) = ⊥

abbrev OfNumbers : Option DraftFault → Type 0
OfNumbers None = Unit {0}
OfNumbers (Some f) = OfNumber f

abbrev Plain : Verdict DraftFault → Type 0
Plain fine = Unit {0}
Plain (out f) = OfNumber f

abbrev AllPlain : List (Piece DraftFault) → Type 0
AllPlain [] = Unit {0}
AllPlain (byte b ∷ ps) = AllPlain ps
AllPlain (num v w ∷ ps) = Plain w × AllPlain ps

join : (xs ys : List (Piece DraftFault)) → AllPlain xs → AllPlain ys → AllPlain (xs ++ ys)
join [] ys a b = b
join (byte x ∷ xs) ys a b = join xs ys a b
join (num v w ∷ xs) ys (h, a) b = (h, join xs ys a b)

judged : (o : Option DraftFault) → OfNumbers o → Plain (verdict o)
judged None h = tt
judged (Some f) h = h

if_out : (b : Bool) (w : ℕ) → OfNumbers (cond b (Some (Range w)) None)
if_out true w = tt
if_out false w = tt

if_below : (b : Bool) (k : ℕ) → OfNumbers (cond b (Some (Capacity k)) None)
if_below true k = tt
if_below false k = tt

first_of : (o p : Option DraftFault) → OfNumbers o → OfNumbers p → OfNumbers (or_else o p)
first_of None p g h = h
first_of (Some f) p g h = g

a_range : (w low high v : ℕ) → Plain (verdict (range_fault w low high v))
a_range w low high v = judged (range_fault w low high v) (if_out (outside low high v) w)

a_station : (w n v : ℕ) → Plain (verdict (station_fault w n v))
a_station w n v = judged (station_fault w n v) (if_out (leb n v) w)

a_number : (fault : ℕ → Option DraftFault) (v : ℕ) → OfNumbers (fault v) → AllPlain (number fault v ∷ [])
a_number fault v h = (judged (fault v) h, tt)

spelt : (bs : List ℕ) → AllPlain (letters bs)
spelt [] = tt
spelt (b ∷ bs) = spelt bs

rows : {X : Type 0} (f : ℕ → X → List (Piece DraftFault)) → ((i : ℕ) (x : X) → AllPlain (f i x)) → (i : ℕ) (xs : List X) → AllPlain (each f i xs)
rows f h i [] = tt
rows f h i (x ∷ xs) = join (f i x) (each f (suc i) xs) (h i x) (rows f h (suc i) xs)

a_line : {X : Type 0} (name : List ℕ) (f : ℕ → X → List (Piece DraftFault)) → ((i : ℕ) (x : X) → AllPlain (f i x)) → (xs : List X) → AllPlain (line_pieces name f xs)
a_line name f h xs = join (letters name) (each f 0 xs ++ byte 10 ∷ []) (spelt name) (join (each f 0 xs) (byte 10 ∷ []) (rows f h 0 xs) tt)

roomed : (k stock : ℕ) (c : Option ℕ) → AllPlain (capacity_piece k stock c ∷ [])
roomed k stock None = tt
roomed k stock (Some c) = a_number (room_fault k stock) c (first_of (range_fault 4 0 10_000 c) (below_stock k stock (Some c)) (if_out (outside 0 10_000 c) 4) (if_below (ltb c stock) k))

of_terms : (k : ℕ) (t : LinkTerms) → AllPlain (terms_pieces k t)
of_terms k t = (a_range 1 1 1_000 t.produced, (a_range 2 1 1_000 t.consumed, (a_range 3 0 10_000 t.stock, roomed k t.stock t.capacity)))

of_ends : (n k : ℕ) (e : LinkEnds) → AllPlain (ends_pieces n e)
of_ends n k e = (a_station 1 n e.from, (a_station 2 n e.to, tt))

all_plain : (e : Entries) → AllPlain (pieces e)
all_plain e =
    let durations = line_pieces (codes "dur") (λ i. duration_pieces) e.durations in
    let ends = line_pieces (codes "ends") (λ i. ends_pieces e.sizes.stations) e.ends in
    let terms = line_pieces (codes "terms") terms_pieces e.terms in
    join (sizes_pieces e.sizes) (durations ++ (ends ++ terms))
    (a_range 1 1 64 e.sizes.stations, (a_range 2 0 128 e.sizes.links, (a_range 3 1 1_000_000 e.sizes.pace.share, (a_range 4 1 10_000_000_000 e.sizes.pace.unit, tt))))
    (join durations (ends ++ terms) (a_line (codes "dur") (λ i. duration_pieces) (λ i d. (a_range 1 1 10_000 d, tt)) e.durations)
    (join ends terms (a_line (codes "ends") (λ i. ends_pieces e.sizes.stations) (of_ends e.sizes.stations) e.ends) (a_line (codes "terms") terms_pieces of_terms e.terms)))

there : (xs : List (Piece DraftFault)) (v : ℕ) (f : DraftFault) (ys : List (Piece DraftFault)) → AllPlain (xs ++ num v (out f) ∷ ys) → OfNumber f
there [] v f ys (h, a) = h
there (byte b ∷ xs) v f ys a = there xs v f ys a
there (num u w ∷ xs) v f ys (h, a) = there xs v f ys a

of_number : (t : List ℕ) (f : DraftFault) (p : ℕ) → Refused t f p → OfNumber f
of_number t f p R = there R.before R.value f R.behind (subst AllPlain R.parts (all_plain R.tells))

module _ (N : Net) (t : List ℕ) (n : ℕ) where
  at_number : (f : DraftFault) (p : ℕ) → Refused t f p → OfNumber f → Answered N (load (text t) n) (number_answer f p) N
  at_number (Range w) p R h = misread_number N t n w p R
  at_number (Capacity k) p R h = misread_room N t n k p R
  at_number (Missing g) p R h = absurd h
  at_number (PastSize s) p R h = absurd h

  pub misread : (f : TextFault) → Right t (said f) → Answered N (load (text t) n) (misread_answer f) N
  misread (Form w) R = misread_form N t n w.at R
  misread (Draft f w) R = at_number f w.at R (of_number t f w.at R)
