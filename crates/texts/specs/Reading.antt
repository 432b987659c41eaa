-- What a part of the reader does, as a part of the form.
use Rattle.std.specs.Prelude.{◌≡◌, ℕ, ◌+◌, ◌-◌, ◌^◌, min, List, drop, IfOk, Some, None, Ok, Err, Option, Result, MatchResult}
use Rattle.drafts.specs.declared.fault.DraftFault.{DraftFault}
use Rattle.drafts.specs.declared.stage.Left.{Left}
use Rattle.drafts.specs.Entries.{capacity_fault, below_stock}
use Rattle.forms.specs.Marks.{Lexed, none, led, number}
use Rattle.forms.specs.Form.{done, got, broken, refused, run}
use Rattle.texts.specs.declared.fault.TextFault.{TextFault}
use Rattle.texts.specs.declared.reader.Reader.{Reader}
use Rattle.texts.specs.Faults.{Worded, said}
use Rattle.texts.specs.NetText.{Entries}
use Rattle.texts.specs.NetForm.{NetForm, asked, capacity_entry}

-- what is left of the text
abbrev pub rest : Reader → List ℕ
rest x = drop x.at x.text.now

-- a reader of t, at its beginning
abbrev pub Started : Reader → List ℕ → Type 0
Started x t = (x.text.now ≡ t) × (x.at ≡ 0)

-- to read f from x on is to read g from y on
pub record Goes (x : Reader) (f : NetForm) (y : Reader) (g : NetForm) : Type 0 where
  pub runs : run x.at f (rest x) ≡ run y.at g (rest y)
  pub same : y.text.now ≡ x.text.now

-- to read f from x on is to find the fault e
pub record Halts (x : Reader) (f : NetForm) (e : TextFault) : Type 0 where
  pub runs : run x.at f (rest x) ≡ said e
  pub worded : Worded x.text.now e

-- what is left to do when a part is read: go on with k from y, or end with its fault
abbrev pub Found : {X : Type 0} → Reader → NetForm → Result X TextFault → (X → NetForm) → Reader → Type 0
Found x f (Ok v) k y = Goes x f y (k v)
Found x f (Err e) k y = Halts x f e

-- g is a part of a form: reading it from x on gives r, and leads to y
abbrev pub Reads : {X : Type 0} → Reader → ((X → NetForm) → NetForm) → Result X TextFault → Reader → Type 0
Reads {X} x g r y = (k : X → NetForm) → Found x (g k) r k y

-- the form is left at p
abbrev pub Leaves : {X : Type 0} → Reader → ℕ → Result X TextFault → Type 0
Leaves x p r = MatchResult r (λ _. ⊥) (λ e. (said e ≡ broken p) × Worded x.text.now e)

-- the number that was looked for at x, with no more than 64 bits
abbrev pub Numbered : Lexed → Reader → Result ℕ TextFault → Reader → Type 0
Numbered none x r y = Leaves x x.at r
Numbered led x r y = Leaves x (x.at + 1) r
Numbered (number v n) x r y = (r ≡ Ok (min v (2 ^ 64 - 1))) × (y.at ≡ x.at + n)

-- a fault of the draft is told with its place in the text
abbrev pub Placed : {X : Type 0} → List ℕ → ℕ → Result X DraftFault → Result X TextFault → Type 0
Placed t p (Ok v) r = r ≡ Ok v
Placed t p (Err f) r = MatchResult r (λ _. ⊥) (λ e. (said e ≡ refused f p) × Worded t e)

-- the next stage of a draft, or else a fault of the draft at that place
abbrev pub Moved : {S X : Type 0} → List ℕ → ℕ → Result X (Left S) → Result X TextFault → Type 0
Moved t p (Ok v) r = Placed t p (Ok v) r
Moved t p (Err left) r = Placed t p (Err left.fault) r

-- a number of which the draft has no fault
pub record Asks (x : Reader) (fault : ℕ → Option DraftFault) (r : Result ℕ TextFault) (y : Reader) : Type 0 where
  pub reads : Reads x (asked fault) r y
  pub fine : IfOk r (λ v. fault v ≡ None)
  pub same : IfOk r (λ v. y.text.now ≡ x.text.now)

-- A capacity in its range, or a dash: what follows depends on whether it is below the stock, which is not known yet.
pub record ReadsCapacity (x : Reader) (r : Result (Option ℕ) TextFault) (y : Reader) : Type 0 where
  pub fits : (link stock : ℕ) (k : Option ℕ → NetForm) → MatchResult r (λ c. below_stock link stock c ≡ None → Goes x (capacity_entry link stock k) y (k c)) (λ e. Halts x (capacity_entry link stock k) e)
  pub below : (link stock : ℕ) (k : Option ℕ → NetForm) → IfOk r (λ c. (f : DraftFault) → below_stock link stock c ≡ Some f → run x.at (capacity_entry link stock k) (rest x) ≡ refused f x.at)
  pub fine : IfOk r (λ c. capacity_fault c ≡ None)
  pub same : IfOk r (λ c. y.text.now ≡ x.text.now)

-- a part that is read into a table has what the table holds then for its value
abbrev pub filled : {X : Type 0} → Result (Unit {0}) TextFault → X → Result X TextFault
filled (Ok _) x = Ok x
filled (Err e) x = Err e

-- the text ends at x, or a byte stands there
abbrev pub Ended : Reader → Result (Unit {0}) TextFault → Type 0
Ended x (Ok _) = (a : Entries) → run {F = DraftFault} x.at (done a) (rest x) ≡ got a
Ended x (Err e) = (a : Entries) → Halts x (done a) e
