-- The checks: for each refusal when it is right and which place it tells, and for each kind of call the order of its checks. Assumes nothing.
use Rattle.std.specs.Prelude.{◌≡◌, ℕ, ◌*◌, ◌<◌, List, [], ◌∷◌, ◌++◌, Some, None, Option, ◌≢◌, slice_index_or}
use Rattle.rules.specs.Net.{Link, Net, rate, Open}
use Rattle.rules.specs.Rates as rates
use Rattle.nets.specs.declared.CircuitStep.{CircuitStep}
use Rattle.drafts.specs.declared.fault.DraftFault.TheVariants.{Range, Capacity}
use Rattle.texts.specs.NetText as texts
use Rattle.texts.specs.NetText.{Entries}
use Rattle.timing.specs.Timing.{Told}
use Rattle.ledger.specs.Calls.{entries, text, duration_to, stock_to, capacity_to, pace_to, start_of, period_of, stock_at, taken_at, link_at, duration_of, rate_of, pace_held, pace_fastest, timetable_shown, Call, load, open_link, put, close, ask, Place, nowhere, at, in_text, around}
use Rattle.ledger.specs.States.{with_stock, with_capacity, entry_link, unrated, Gives, After}
use Rattle.ledger.specs.Ranges.{Number, FirstOut, Numbers}

-- The refusals, and their numbers. The first three are those of a text.
pub data Refusal : Type 0 where
  unformed : Refusal
  out_in_text : Refusal
  full_in_text : Refusal
  out_of_range : Refusal
  too_full : Refusal
  short_list : Refusal
  cut_off : Refusal
  no_rates : Refusal
  unbalanced : Refusal
  in_use : Refusal
  not_open : Refusal
  no_timetable : Refusal

abbrev pub number_of : Refusal → ℕ
number_of unformed = 1
number_of out_in_text = 2
number_of full_in_text = 5
number_of out_of_range = 2
number_of too_full = 5
number_of short_list = 6
number_of cut_off = 10
number_of no_rates = 11
number_of unbalanced = 12
number_of in_use = 13
number_of not_open = 14
number_of no_timetable = 20

-- The checks of each call that need neither a list nor a timetable, in their order.
abbrev pub own_checks : Call → List Refusal
own_checks (load s n) = out_of_range ∷ too_full ∷ cut_off ∷ no_rates ∷ []
own_checks (open_link k l n) = out_of_range ∷ in_use ∷ too_full ∷ unbalanced ∷ []
own_checks (put s n) = out_of_range ∷ not_open ∷ too_full ∷ []
own_checks (close k) = out_of_range ∷ not_open ∷ []
own_checks (ask q) = out_of_range ∷ not_open ∷ []

-- A call that is handed a list is checked for it first, and for a timetable last.
abbrev pub with_list : List Refusal → List Refusal
with_list checks = short_list ∷ (checks ++ no_timetable ∷ [])

-- The order of the checks. Load: 6, 2, 5, 10, 11, 20; a text is read before that, and has at most one of its three faults. Open: 6, 2, 13, 5, 12, 20.
-- Settings: 6, 2, 14, 5, 20, where each applies. Close and questions: 2, 14.
abbrev pub order : Call → List Refusal
order (load (entries e) n) = with_list (own_checks (load (entries e) n))
order (load (text t) n) = unformed ∷ out_in_text ∷ full_in_text ∷ with_list (own_checks (load (text t) n))
order (open_link k l n) = with_list (own_checks (open_link k l n))
order (put s n) = with_list (own_checks (put s n))
order (close k) = own_checks (close k)
order (ask q) = own_checks (ask q)

-- What a call has of what the checks ask about. The length of the caller's list:
abbrev pub list_of : Call → Option ℕ
list_of (load s n) = Some n
list_of (open_link k l n) = Some n
list_of (put s n) = Some n
list_of (close k) = None
list_of (ask q) = None

-- the entries that it would load:
abbrev pub Loads : Call → Entries → Type 0
Loads (load s n) e = Gives s e
Loads (open_link k l n) e = ⊥
Loads (put s n) e = ⊥
Loads (close k) e = ⊥
Loads (ask q) e = ⊥

-- its text:
abbrev pub text_of : Call → Option (List ℕ)
text_of (load (entries e) n) = None
text_of (load (text t) n) = Some t
text_of (open_link k l n) = None
text_of (put s n) = None
text_of (close k) = None
text_of (ask q) = None

-- the number and the link that it would open:
abbrev pub opening : Call → Option (ℕ × Link)
opening (load s n) = None
opening (open_link k l n) = Some (k, l)
opening (put s n) = None
opening (close k) = None
opening (ask q) = None

-- the number of the link that it works on, which must be open:
abbrev pub link_of : Call → Option ℕ
link_of (load s n) = None
link_of (open_link k l n) = None
link_of (put (duration_to i d) n) = None
link_of (put (stock_to k u) n) = Some k
link_of (put (capacity_to k c) n) = Some k
link_of (put (pace_to A B) n) = None
link_of (close k) = Some k
link_of (ask (start_of i)) = None
link_of (ask (period_of i)) = None
link_of (ask (stock_at k t)) = Some k
link_of (ask (taken_at k t)) = Some k
link_of (ask (link_at k)) = Some k
link_of (ask (duration_of i)) = None
link_of (ask (rate_of i)) = None
link_of (ask pace_held) = None
link_of (ask pace_fastest) = None
link_of (ask timetable_shown) = None

-- 1: the text leaves its form. Told: the offset.
abbrev pub Unformed : Call → Place → Type 0
Unformed c p = (t : List ℕ) × (o : ℕ) × (text_of c ≡ Some t) × texts.Broken t o × (p ≡ in_text None o)

-- 2 of a text: a number of it is out of range. Told: which number of its entry, and the offset.
abbrev pub OutInText : Call → Place → Type 0
OutInText c p = (t : List ℕ) × (which : ℕ) × (o : ℕ) × (text_of c ≡ Some t) × texts.Refused t (Range which) o × (p ≡ in_text (Some which) o)

-- 5 of a text: a capacity of it is below the stock. Told: the link, and the offset.
abbrev pub FullInText : Call → Place → Type 0
FullInText c p = (t : List ℕ) × (link : ℕ) × (o : ℕ) × (text_of c ≡ Some t) × texts.Refused t (Capacity link) o × (p ≡ in_text (Some link) o)

-- 2: a number is out of range. Told: which number of the call or entry, counted from 1, the first such.
abbrev pub OutOfRange : Net → Call → Place → Type 0
OutOfRange L c p = (ns : List Number) × (which : ℕ) × Numbers L c ns × FirstOut ns which × (p ≡ at which)

-- The lowest number of which P holds.
pub record Lowest (P : ℕ → Type 0) (k : ℕ) : Type 0 where
  pub holds : P k
  pub none_below : (h : ℕ) → h < k → P h → ⊥

-- The call would have the link l stand under the number k.
abbrev pub Makes : Net → Call → ℕ → Link → Type 0
Makes L (load s n) k l = (e : Entries) × Gives s e × (k < e.sizes.links) × (l ≡ entry_link e k)
Makes L (open_link h m n) k l = (k ≡ h) × (l ≡ m)
Makes L (put (duration_to i d) n) k l = ⊥
Makes L (put (stock_to h u) n) k l = (k ≡ h) × (m : Link) × Open L h m × (l ≡ with_stock m u)
Makes L (put (capacity_to h c) n) k l = (k ≡ h) × (m : Link) × Open L h m × (l ≡ with_capacity m c)
Makes L (put (pace_to A B) n) k l = ⊥
Makes L (close h) k l = ⊥
Makes L (ask q) k l = ⊥

-- 5: the capacity is below the stock. Told: the link, the lowest such that the call would make.
abbrev pub MakesFull : Net → Call → ℕ → Type 0
MakesFull L c k = (l : Link) × (room : ℕ) × Makes L c k l × (l.c ≡ Some room) × (room < l.u)

abbrev pub TooFull : Net → Call → Place → Type 0
TooFull L c p = (k : ℕ) × Lowest (MakesFull L c) k × (p ≡ at k)

-- 6: the list of steps is under 64. Told: its length.
abbrev pub ShortList : Call → Place → Type 0
ShortList c p = (n : ℕ) × (list_of c ≡ Some n) × (n < 64) × (p ≡ at n)

-- 10: the net is not joined. Told: the lowest station that no chain of links joins to station 0.
abbrev pub CutOff : Call → Place → Type 0
CutOff c p = (e : Entries) × (y : ℕ) × Loads c e × rates.CutOff (unrated e) y × (p ≡ at y)

-- 11: no rates exist. Told: nothing.
abbrev pub NoRates : Call → Place → Type 0
NoRates c p = (e : Entries) × Loads c e × rates.NoRates (unrated e) × (p ≡ nowhere)

-- 12: the rates do not balance the link. Told: the link.
abbrev pub Unbalanced : Net → Call → Place → Type 0
Unbalanced L c p = (k : ℕ) × (l : Link) × (opening c ≡ Some (k, l)) × (rate L l.i * l.v ≢ rate L l.j * l.w) × (p ≡ at k)

-- 13: the link number is open. Told: it.
abbrev pub InUse : Net → Call → Place → Type 0
InUse L c p = (k : ℕ) × (l : Link) × (m : Link) × (opening c ≡ Some (k, l)) × Open L k m × (p ≡ at k)

-- 14: the link number is not open. Told: it.
abbrev pub NotOpen : Net → Call → Place → Type 0
NotOpen L c p = (k : ℕ) × (link_of c ≡ Some k) × (slice_index_or L.links k None ≡ None) × (p ≡ at k)

-- 20: no timetable, in any fraction of a tick, keeps the rules of what the call would bring about.
-- Told: a circuit of that state's steps with their lengths, from its lowest station, with a sum above zero. Which one is left open.
abbrev pub Untimed : Net → Call → Place → Type 0
Untimed L c p = (L' : Net) × (s : List CircuitStep) × After L c L' × Told L' s × (p ≡ around s)

-- The table.
abbrev pub Fails : Refusal → Net → Call → Place → Type 0
Fails unformed L c p = Unformed c p
Fails out_in_text L c p = OutInText c p
Fails full_in_text L c p = FullInText c p
Fails out_of_range L c p = OutOfRange L c p
Fails too_full L c p = TooFull L c p
Fails short_list L c p = ShortList c p
Fails cut_off L c p = CutOff c p
Fails no_rates L c p = NoRates c p
Fails unbalanced L c p = Unbalanced L c p
Fails in_use L c p = InUse L c p
Fails not_open L c p = NotOpen L c p
Fails no_timetable L c p = Untimed L c p
