-- A close is never refused for want of a timetable, and keeps every timetable. Assumes nothing.
use Rattle.std.proofs.Common.{◌≡◌, ℕ, List, [], ◌∷◌, length, get_or, set, None, Option, sym, ap, ◌∙◌, subst, inl, inr, arith}
use Rattle.std.proofs.lemmas.Bool.{cases_lt}
use Rattle.std.proofs.lemmas.List.{get_or-set_same, get_or-set_other, get_or_past, length-set}
use Rattle.rules.specs.Net.{Link, Net, Fits}
use Rattle.rules.specs.Rules.{Keeps}
use Rattle.ledger.specs.Calls.{close, Place, Answer, refused}
use Rattle.ledger.specs.Checks.{Refusal, out_of_range, not_open, number_of}
use Rattle.ledger.specs.Runs.{FirstFails}
use Rattle.ledger.specs.Facts.{CloseKeeps}
use Rattle.ledger.proofs.Basics.{not_done}
use Rattle.ledger.proofs.Links.{still_fits, still_keeps}

not_twenty : (N : Net) (k : ℕ) (r : Refusal) (q : Place) (p : Place) (a : Answer) → FirstFails N (close k) (out_of_range ∷ not_open ∷ []) r q → a ≡ refused (number_of r) q → a ≡ refused 20 p → ⊥
not_twenty N k r q p a (inl (e, f)) g h = let z : number_of r ≡ 20 = cc in omega (arith, ap number_of e)
not_twenty N k r q p a (inr (n, inl (e, f))) g h = let z : number_of r ≡ 20 = cc in omega (arith, ap number_of e)
not_twenty N k r q p a (inr (n, inr (m, f))) g h = f

gone : (xs : List (Option Link)) (k : ℕ) → get_or (set xs k None) k None ≡ None
gone xs k =
    elim (cases_lt k (length xs)) [
      | inl h ↦ get_or-set_same xs k None None h
      | inr h ↦ get_or_past (set xs k None) k None (omega (arith, length-set xs k None))
    ]

pub close_keeps_lem : CloseKeeps
close_keeps_lem N k a L (inl R) = (
  λ p e. not_twenty N k R.check R.place p a R.fails R.answer e,
  λ e. absurd (not_done (sym R.answer ∙ e)),
  λ T F K. subst (λ z. Fits z T × Keeps z T) (sym R.unchanged) (F, K),
)
close_keeps_lem N k a L (inr A) = (
  λ p e. not_done (sym e ∙ A.answer),
  λ e. subst (λ z. (get_or z.links k None ≡ None) × ((h : ℕ) → (h ≡ k → ⊥) → get_or z.links h None ≡ get_or N.links h None)) (sym A.after) (gone N.links k, λ h ne. get_or-set_other N.links k h None None ne),
  λ T F K. subst (λ z. Fits z T × Keeps z T) (sym A.after) (still_fits N k None T F, still_keeps N k T K),
)
