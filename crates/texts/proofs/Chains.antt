-- Parts of a reading, one after another.
use Rattle.std.proofs.Common.{◌≡◌, ℕ, List, drop, Ok, Err, Result, MatchResult, IfOk, sym, ap, ◌∙◌, subst}
use Rattle.std.specs.Result.{IsErrAnd}
use Rattle.drafts.specs.declared.fault.DraftFault.{DraftFault}
use Rattle.drafts.specs.declared.stage.Left.{Left}
use Rattle.forms.specs.Form.{broken, run}
use Rattle.texts.specs.declared.fault.TextFault.{TextFault}
use Rattle.texts.specs.declared.reader.Reader.{Reader}
use Rattle.texts.specs.Faults.{Worded, said}
use Rattle.texts.specs.NetForm.{NetForm}
use Rattle.texts.specs.Reading.{rest, Goes, Halts, Found, filled, Started, Placed, Moved}

-- one part, and then the next
pub and_on : {x y z : Reader} {f g h : NetForm} → Goes x f y g → Goes y g z h → Goes x f z h
and_on p q = record { runs = p.runs ∙ q.runs; same = q.same ∙ p.same }

-- one part, and then a fault
pub and_halt : {x y : Reader} {f g : NetForm} {e : TextFault} → Goes x f y g → Halts y g e → Halts x f e
and_halt {e = e} p q = record { runs = p.runs ∙ q.runs; worded = subst (λ t. Worded t e) p.same q.worded }

-- one part, and then whatever the next one finds
pub and_find : {X : Type 0} {x y : Reader} {f g : NetForm} → Goes x f y g → (r : Result X TextFault) (k : X → NetForm) (z : Reader) → Found y g r k z → Found x f r k z
and_find p (Ok v) k z q = and_on p q
and_find p (Err e) k z q = and_halt p q

-- the exit of a `?`
pub leave : {X : Type 0} {x : Reader} {f : NetForm} (r : Result X TextFault) (e : TextFault) (k : X → NetForm) (y : Reader) → (d : TextFault) × (r ≡ Err d) × (d ≡ e) → Halts x f e → Found x f r k y
leave {x = x} {f = f} r e k y p h = subst (λ z. Found x f z k y) (sym (p.1 ∙ ap Err p.2)) h

-- the same where the value stands in a table
pub leave_filled : {X : Type 0} {x : Reader} {f : NetForm} (r : Result (Unit {0}) TextFault) (e : TextFault) (v : X) (k : X → NetForm) (y : Reader) → (d : TextFault) × (r ≡ Err d) × (d ≡ e) → Halts x f e → Found x f (filled r v) k y
leave_filled {x = x} {f = f} r e v k y p h = subst (λ z. Found x f (filled z v) k y) (sym (p.1 ∙ ap Err p.2)) h

pub find_filled : {X : Type 0} (x : Reader) (f : NetForm) (r : Result (Unit {0}) TextFault) (v : X) (k : X → NetForm) (y : Reader) → Found x f r (λ _. k v) y → Found x f (filled r v) k y
find_filled x f (Ok _) v k y h = h
find_filled x f (Err e) v k y h = h

-- the form is left at p
pub halts_form : (x : Reader) (f : NetForm) (e : TextFault) {p : ℕ} → run x.at f (rest x) ≡ broken p → said e ≡ broken p → Worded x.text.now e → Halts x f e
halts_form x f e r s w = record { runs = r ∙ sym s; worded = w }

pub goes_start : (f : NetForm) (x : Reader) (t : List ℕ) → Started x t → run 0 f t ≡ run x.at f (rest x)
goes_start f x t s =
    ap (λ n. run n f t) (sym s.1) ∙ ap (run x.at f) (ap (λ n. drop n t) (sym s.1) ∙ ap (λ l. drop x.at l) (sym s.0))

-- a stage that comes back
pub moved_mapped : {S X : Type 0} (t : List ℕ) (p : ℕ) (n : Result X (Left S)) (a : Result X DraftFault) (r : Result X TextFault) (P : Left S → DraftFault → Type 0)
    → ((l : Left S) (f : DraftFault) → P l f → f ≡ l.fault) → MatchResult n (λ v. a ≡ Ok v) (λ l. IsErrAnd a (P l)) → Placed t p a r → Moved t p n r
moved_mapped t p (Ok v) a r P h m q = subst (λ z. Placed t p z r) m q
moved_mapped t p (Err l) (Ok v) r P h m q = absurd m
moved_mapped t p (Err l) (Err f) r P h m q = subst (λ z. Placed t p (Err z) r) (h l f m) q

-- the stage that is moved to
pub moved_on : {S X : Type 0} (t : List ℕ) (p : ℕ) (n : Result X (Left S)) (v : X) (P : X → Type 0) → Moved t p n (Ok v) → IfOk n P → P v
moved_on t p (Ok w) v P m h = subst P (sym (let e : v ≡ w = cc in e)) h
moved_on t p (Err l) v P m h = absurd m
