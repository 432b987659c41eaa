-- The entries of a line, read one after another into a stage of the draft.
use Rattle.std.specs.Prelude.{◌≡◌, ℕ, ◌≤◌, suc, List, length, IfOk, Some, None, Option, Result, MatchResult}
use Rattle.drafts.specs.declared.fault.DraftFault.{DraftFault}
use Rattle.forms.specs.Form.{run, refused}
use Rattle.forms.specs.Lines.{rows}
use Rattle.texts.specs.declared.fault.TextFault.{TextFault}
use Rattle.texts.specs.declared.reader.Reader.{Reader}
use Rattle.texts.specs.NetForm.{NetForm}
use Rattle.texts.specs.Reading.{rest, Goes, Halts, Found}

-- An entry e whose numbers are in range, and the place p of the last of them: as entry i it is read, or refused at p, where the draft has a fault of it at place i.
pub record ReadsEntry {E : Type 0} (form : ℕ → (E → NetForm) → NetForm) (fault : E → Option DraftFault) (place_fault : ℕ → E → Option DraftFault)
    (x : Reader) (r : Result (E × ℕ) TextFault) (y : Reader) : Type 0 where
  pub fits : (i : ℕ) (k : E → NetForm) → MatchResult r (λ v. place_fault i v.0 ≡ None → Goes x (form i k) y (k v.0)) (λ e. Halts x (form i k) e)
  pub refuses : (i : ℕ) (k : E → NetForm) → IfOk r (λ v. (f : DraftFault) → place_fault i v.0 ≡ Some f → run x.at (form i k) (rest x) ≡ refused f v.1)
  pub fine : IfOk r (λ v. fault v.0 ≡ None)
  pub inside : IfOk r (λ v. v.1 ≤ length y.text.now)
  pub same : IfOk r (λ v. y.text.now ≡ x.text.now)

-- of the entries that are left, the next one is read
abbrev pub ReadsRow : {X : Type 0} → (ℕ → (X → NetForm) → NetForm) → Reader → List X → Result (Unit {0}) TextFault → Reader → List X → Type 0
ReadsRow {X} form x before r y after =
    (n : ℕ) (k : List X → NetForm) → Found x (rows form (suc n) before k) r (λ _. rows form n after k) y
