-- A link number opened or closed. Assumes nothing.
use Rattle.std.proofs.Common.{◌≡◌, ℕ, ◌⊎◌, length, get_or, set, Some, None, Option, sym, ◌∙◌, subst, inl, inr}
use Rattle.std.proofs.lemmas.Bool.{cases_lt, cases_eq}
use Rattle.std.proofs.lemmas.List.{get_or-set_same, get_or-set_other, set_past}
use Rattle.handover.proofs.Options.{none_some}
use Rattle.rules.specs.Net.{Link, Net, Timetable, Open, Fits}
use Rattle.rules.specs.Rules.{Keeps, HasTimetable}
use Rattle.ledger.specs.States.{with_link}

pub open_with : (N : Net) (k : ℕ) (o : Option Link) (h : ℕ) (l : Link) → Open (with_link N k o) h l → (o ≡ Some l) ⊎ Open N h l
open_with N k o h l e =
    elim (cases_eq h k) [
      | inl f ↦
          elim (cases_lt k (length N.links)) [
            | inl b ↦ inl (sym (get_or-set_same N.links k o None b) ∙ subst (λ z. get_or (set N.links k o) z None ≡ Some l) f e)
            | inr b ↦ inr (subst (λ xs. get_or xs h None ≡ Some l) (set_past N.links k o b) e)
          ]
      | inr ne ↦ inr (sym (get_or-set_other N.links k h o None ne) ∙ e)
    ]

open_still : (N : Net) (k h : ℕ) (l : Link) → Open (with_link N k None) h l → Open N h l
open_still N k h l e = elim (open_with N k None h l e) [ inl f ↦ absurd (none_some l f) | inr g ↦ g ]

-- a close keeps every timetable
pub still_fits : (N : Net) (k : ℕ) (o : Option Link) (T : Timetable) → Fits N T → Fits (with_link N k o) T
still_fits N k o T F = record { scaled = F.scaled; complete = F.complete }

pub still_keeps : (N : Net) (k : ℕ) (T : Timetable) → Keeps N T → Keeps (with_link N k None) T
still_keeps N k T K = record { stocked = λ h l e. K.stocked h l (open_still N k h l e); spaced = λ h l c e. K.spaced h l c (open_still N k h l e); apart = K.apart }

pub still_timed : (N : Net) (k : ℕ) → HasTimetable N → HasTimetable (with_link N k None)
still_timed N k t = (t.0, still_fits N k None t.0 t.1, still_keeps N k t.0 t.2)
