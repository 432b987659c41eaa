-- Entries that are read and taken by a stage.
use Rattle.std.proofs.Common.{◌≡◌, ℕ, suc, ◌+◌, ◌<◌, ◌≤◌, ◌⊎◌, List, [], ◌∷◌, ◌++◌, length, take, drop, set, IfOk, OnOk, Some, None, Ok, Err, Option, Result, sym, refl, ap, ◌∙◌, subst, inl, inr, arith}
use Rattle.std.proofs.lemmas.List.{take_more_set, drop-set-lt, length-set}
use Rattle.std.proofs.lemmas.Bool.Decides.{nat_tests}
use Rattle.handover.proofs.Options.{none_some}
use Rattle.drafts.specs.declared.fault.DraftFault.{DraftFault}
use Rattle.drafts.specs.declared.stage.NetSizes.{NetSizes}
use Rattle.nets.specs.declared.LinkEnds.{LinkEnds}
use Rattle.nets.specs.declared.LinkTerms.{LinkTerms}
use Rattle.drafts.specs.Faults.{faulted, or_else, range_fault, station_fault}
use Rattle.drafts.specs.Entries.{sizes_fault, ends_fault, terms_fault, capacity_fault}
use Rattle.drafts.specs.Stages.{past, sizes_held}
use Rattle.forms.specs.Form.{refused}
use Rattle.forms.specs.Lines.{rows}
use Rattle.texts.specs.declared.fault.TextFault.{TextFault}
use Rattle.texts.specs.declared.reader.Reader.{Reader}
use Rattle.texts.specs.Faults.{Worded, said}
use Rattle.texts.specs.NetForm.{NetForm}
use Rattle.texts.specs.Reading.{Goes, Halts, Found, Placed}
use Rattle.texts.specs.Rows.{ReadsEntry, ReadsRow}
use Rattle.texts.proofs.Chains.{leave}

-- the exit of a `?`
pub row_left : {X : Type 0} (form : ℕ → (X → NetForm) → NetForm) (x : Reader) (before : List X) (r : Result (Unit {0}) TextFault) (y : Reader) (after : List X) (e : TextFault)
    → (d : TextFault) × (r ≡ Err d) × (d ≡ e) → ((n : ℕ) (k : List X → NetForm) → Halts x (rows form (suc n) before k) e) → ReadsRow form x before r y after
row_left form x before r y after e p h = λ n k. leave r e (λ _. rows form n after k) y p (h n k)

-- the entry stands behind the others
pub row_taken : {X : Type 0} (form : ℕ → (X → NetForm) → NetForm) (x : Reader) (before : List X) (r : Result (Unit {0}) TextFault) (y : Reader) (after : List X) (d : X)
    → r ≡ Ok tt → after ≡ before ++ d ∷ [] → ((n : ℕ) (k : List X → NetForm) → Goes x (rows form (suc n) before k) y (rows form n (before ++ d ∷ []) k)) → ReadsRow form x before r y after
row_taken {X} form x before r y after d e a h =
    λ n k. subst (λ z. Found x (rows form (suc n) before k) z (λ _. rows form n after k) y) (sym e)
    (subst (λ (l : List X). Goes x (rows form (suc n) before k) y (rows form n l k)) (sym a) (h n k))

pub made_ok : {X E : Type 0} (r : Result X E) (x : X) (P : X → Type 0) → r ≡ Ok x → P x → IfOk r P
made_ok r x P e h = subst (λ z. IfOk z P) (sym e) h

-- a column with one entry more
module _ {X : Type 0} (xs ys : List X) (i j : ℕ) (d : X) (e : j ≡ i + 1) (s : ys ≡ set xs i d) where
  pub column_front : i < length xs → take j ys ≡ take i xs ++ d ∷ []
  column_front l = ap (λ n. take n ys) e ∙ ap (λ l. take (i + 1) l) s ∙ take_more_set xs i d l

  pub column_behind : drop j ys ≡ drop j xs
  column_behind = ap (drop j) s ∙ drop-set-lt j xs i d (omega arith)

  pub column_long : length ys ≡ length xs
  column_long = ap length s ∙ length-set xs i d

not_past : (size held : ℕ) → held < size → past size held ≡ None
not_past size held h = grind (arith, nat_tests)

-- of an entry in its range that is not past the size, a stage says only whether its place has a fault
pub took : (size held : ℕ) (fault place : Option DraftFault) (a : Result (Unit {0}) DraftFault) (r : Result (Unit {0}) TextFault) (b : List ℕ) (p : ℕ) (T : Type 0)
    → faulted a ≡ or_else (past size held) (or_else fault place) → OnOk a T → Placed b p a r → held < size → fault ≡ None
    → ((r ≡ Ok tt) × (place ≡ None) × T) ⊎ ((f : DraftFault) × (e : TextFault) × (r ≡ Err e) × (place ≡ Some f) × (said e ≡ refused f p) × Worded b e)
took size held fault place (Ok u) r b p T told taken q l n =
    inl (q, sym (told ∙ ap (λ o. or_else o (or_else fault place)) (not_past size held l) ∙ ap (λ o. or_else o place) n), taken)
took size held fault place (Err g) (Ok u) b p T told taken q l n = absurd q
took size held fault place (Err g) (Err e) b p T told taken q l n =
    inr (g, e, refl, sym (told ∙ ap (λ o. or_else o (or_else fault place)) (not_past size held l) ∙ ap (λ o. or_else o place) n), q.0, q.1)

pub took_sizes : (entry : Option NetSizes) (e : NetSizes) (a : Result (Unit {0}) DraftFault) (r : Result (Unit {0}) TextFault) (b : List ℕ) (p : ℕ) (T : Type 0)
    → faulted a ≡ or_else (past 1 (sizes_held entry)) (sizes_fault e) → OnOk a T → Placed b p a r → entry ≡ None → sizes_fault e ≡ None → (r ≡ Ok tt) × T
took_sizes entry e (Ok u) r b p T told taken q l n = (q, taken)
took_sizes entry e (Err g) r b p T told taken q l n =
    absurd (none_some g (sym (told ∙ ap (λ o. or_else (past 1 (sizes_held o)) (sizes_fault e)) l ∙ n)))

-- terms are in their ranges number by number
pub terms_fine : (t : LinkTerms) → range_fault 1 1 1_000 t.produced ≡ None → range_fault 2 1 1_000 t.consumed ≡ None → range_fault 3 0 10_000 t.stock ≡ None → capacity_fault t.capacity ≡ None → terms_fault t ≡ None
terms_fine t p q r s = rw (p, q, r, s)

pub ends_fine : (n m : ℕ) (e : LinkEnds) → n ≡ m → station_fault 1 n e.from ≡ None → station_fault 2 n e.to ≡ None → ends_fault m e ≡ None
ends_fine n m e z p q = subst (λ m. ends_fault m e ≡ None) z (rw (p, q))

-- the entry is refused
pub row_halted : {X : Type 0} (form : ℕ → (X → NetForm) → NetForm) (x : Reader) (before : List X) (r : Result (Unit {0}) TextFault) (y : Reader) (after : List X) (e : TextFault)
    → r ≡ Err e → ((n : ℕ) (k : List X → NetForm) → Halts x (rows form (suc n) before k) e) → ReadsRow form x before r y after
row_halted form x before r y after e p h = row_left form x before r y after e (e, p, refl) h

pub made_err : {X E : Type 0} (r : Result X E) (e : E) (P : X → Type 0) → r ≡ Err e → IfOk r P
made_err r e P p = subst (λ z. IfOk z P) (sym p) tt

pub sizes_fine : (e : NetSizes) → range_fault 1 1 64 e.stations ≡ None → range_fault 2 0 128 e.links ≡ None → range_fault 3 1 1_000_000 e.pace.share ≡ None → range_fault 4 1 10_000_000_000 e.pace.unit ≡ None → sizes_fault e ≡ None
sizes_fine e p q r s = rw (p, q, r, s)

-- the reading of an entry, at the exit of a `?`
pub read_left : {E : Type 0} (form : ℕ → (E → NetForm) → NetForm) (fault : E → Option DraftFault) (place_fault : ℕ → E → Option DraftFault) (x : Reader) (r : Result (E × ℕ) TextFault) (y : Reader) (e : TextFault)
    → (d : TextFault) × (r ≡ Err d) × (d ≡ e) → ((i : ℕ) (k : E → NetForm) → Halts x (form i k) e) → ReadsEntry form fault place_fault x r y
read_left form fault place_fault x r y e p h =
    subst (λ z. ReadsEntry form fault place_fault x z y) (sym (p.1 ∙ ap Err p.2)) (record { fits = h; refuses = λ i k. tt; fine = tt; inside = tt; same = tt })

-- the reading of an entry that may stand at any place
pub read_plain : {E : Type 0} (form : ℕ → (E → NetForm) → NetForm) (fault : E → Option DraftFault) (x y : Reader) (e : E) (p : ℕ)
    → ((i : ℕ) (k : E → NetForm) → Goes x (form i k) y (k e)) → fault e ≡ None → p ≤ length y.text.now → y.text.now ≡ x.text.now → ReadsEntry form fault (λ i e. None) x (Ok (e, p)) y
read_plain form fault x y e p g n l s =
    record { fits = λ i k z. g i k; refuses = λ i k f z. absurd (none_some f z); fine = n; inside = l; same = s }
