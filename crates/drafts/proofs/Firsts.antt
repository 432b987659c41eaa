-- The first fault of a list of entries, entry after entry. Assumes nothing.
use Rattle.std.proofs.Common.{◌≡◌, ℕ, zero, suc, ◌+◌, ◌<◌, ◌≤◌, List, [], ◌∷◌, length, get_or, drop, Some, None, Err, Option, Result, sym, refl, ap, ◌∙◌, subst, add-one, arith}
use Rattle.std.proofs.lemmas.List.{drop_more, drop_all}
use Rattle.drafts.specs.declared.fault.DraftFault.{DraftFault}
use Rattle.drafts.specs.Faults.{or_else, faulted}
use Rattle.nets.specs.declared.checked.CheckedNet.{CheckedNet}
use Rattle.drafts.specs.declared.stage.NetSizes.{NetSizes}
use Rattle.drafts.specs.declared.tables.Tables.{Tables}
use Rattle.drafts.specs.Checks.{first_fault, draft_fault, Checks}

module _ {X : Type 0} (f : ℕ → X → Option DraftFault) (xs : List X) (i : ℕ) (d : X) (h : i < length xs) where
  here : first_fault f i (drop i xs) ≡ or_else (f i (get_or xs i d)) (first_fault f (i + 1) (drop (i + 1) xs))
  here = ap (first_fault f i) (drop_more xs i d h) ∙ ap (λ k. or_else (f i (get_or xs i d)) (first_fault f k (drop (i + 1) xs))) (sym (add-one i))

  pub passed : f i (get_or xs i d) ≡ None → first_fault f (i + 1) (drop (i + 1) xs) ≡ first_fault f i (drop i xs)
  passed e = sym (here ∙ ap (λ z. or_else z (first_fault f (i + 1) (drop (i + 1) xs))) e)

  pub stopped : (g : DraftFault) → f i (get_or xs i d) ≡ Some g → first_fault f i (drop i xs) ≡ Some g
  stopped g e = here ∙ ap (λ z. or_else z (first_fault f (i + 1) (drop (i + 1) xs))) e

pub finished : {X : Type 0} (f : ℕ → X → Option DraftFault) (xs : List X) (i : ℕ) → length xs ≤ i → first_fault f i (drop i xs) ≡ None
finished f xs i h = ap (first_fault f i) (drop_all i xs h)

-- a check that stops with a fault
pub exit : (r : Result (Unit {0}) DraftFault) (e : DraftFault) (w : Option DraftFault) → (y : DraftFault) × (r ≡ Err y) × (y ≡ e) → w ≡ Some e → faulted r ≡ w
exit r e w p q = ap faulted (p.1 ∙ ap Err p.2) ∙ sym q

-- no entry fails where there is no first fault
pub or_none : (v w : Option DraftFault) → or_else v w ≡ None → (v ≡ None) × (w ≡ None)
or_none None w e = (refl, e)
or_none (Some g) w e = absurd (let z : ◌≡◌ {A = ℕ} 0 1 = cc in omega arith)

pub none_fails : {X : Type 0} (f : ℕ → X → Option DraftFault) (k : ℕ) (xs : List X) → first_fault f k xs ≡ None → (i : ℕ) (d : X) → i < length xs → f (k + i) (get_or xs i d) ≡ None
none_fails f k [] e i d h = absurd (omega arith)
none_fails f k (x ∷ xs) e zero d h = subst (λ n. f n x ≡ None) (let z : k ≡ k + 0 = omega arith in z) (or_none _ _ e).0
none_fails f k (x ∷ xs) e (suc i) d h =
    subst (λ n. f n (get_or xs i d) ≡ None) (let z : suc k + i ≡ k + suc i = omega arith in z) (none_fails f (suc k) xs (or_none _ _ e).1 i d (omega arith))

-- a check of the whole draft that stops with a fault
pub stops : (s : NetSizes) (t : Tables) (r : Result CheckedNet DraftFault) (e : DraftFault) → (y : DraftFault) × (r ≡ Err y) × (y ≡ e) → draft_fault s t ≡ Some e → Checks s t r
stops s t r e p q = subst (Checks s t) (sym (p.1 ∙ ap Err p.2)) q

pub fourth : (a b c d e : Option DraftFault) (f : DraftFault) → a ≡ None → b ≡ None → c ≡ None → d ≡ Some f → or_else a (or_else b (or_else c (or_else d e))) ≡ Some f
fourth a b c d e f p q r h = rw (p, q, r, h)

pub fifth : (a b c d e : Option DraftFault) (f : DraftFault) → a ≡ None → b ≡ None → c ≡ None → d ≡ None → e ≡ Some f → or_else a (or_else b (or_else c (or_else d e))) ≡ Some f
fifth a b c d e f p q r h i = rw (p, q, r, h, i)
