-- The entries of a line, one after another.
use Rattle.std.proofs.Common.{◌≡◌, ℕ, suc, ◌+◌, ◌-◌, ◌<◌, ◌≤◌, List, take, drop, IfOk, Ok, Err, Result, sym, refl, ap, ◌∙◌, subst, arith}
use Rattle.std.proofs.lemmas.List.{drop-drop}
use Rattle.forms.specs.Lines.{rows}
use Rattle.forms.proofs.Parts.{rows_more, rows_end}
use Rattle.texts.specs.declared.fault.TextFault.{TextFault}
use Rattle.texts.specs.declared.reader.Reader.{Reader}
use Rattle.texts.specs.NetForm.{NetForm}
use Rattle.texts.specs.Reading.{Goes, Halts}
use Rattle.texts.specs.Rows.{ReadsRow}

goes_by : {x y : Reader} {f f' g g' : NetForm} → f ≡ f' → g ≡ g' → Goes x f' y g' → Goes x f y g
goes_by {x} {y} {f} {f'} {g} {g'} p q h = subst (λ z. Goes x z y g) (sym p) (subst (λ z. Goes x f' y z) (sym q) h)

pub goes_none : {x : Reader} {f g : NetForm} → f ≡ g → Goes x f x g
goes_none {x} {f} {g} p = subst (λ z. Goes x f x z) p (record { runs = refl; same = refl })

module _ {X : Type 0} (form : ℕ → (X → NetForm) → NetForm) (xs : List X) (held i count : ℕ) (at : held ≡ i) (more : i < count) (k : List X → NetForm) (y z : Reader) where
  open_row : rows form (count - i) (take i xs) k ≡ rows form (suc (count - (i + 1))) (take held xs) k
  open_row = rows_more form k count i (take i xs) more ∙ ap (λ n. rows form (suc (count - (i + 1))) (take n xs) k) (sym at)

  pub row_on : (ys : List X) (held' : ℕ) → held' ≡ held + 1 → ReadsRow form y (take held xs) (Ok tt) z (take held' ys) → Goes y (rows form (count - i) (take i xs) k) z (rows form (count - (i + 1)) (take (i + 1) ys) k)
  row_on ys held' e h =
      let n : i + 1 ≡ held' = omega (arith, at, e) in
      goes_by open_row (ap (λ n. rows form (count - (i + 1)) (take n ys) k) n) (h (count - (i + 1)) k)

  pub row_halt : (after : List X) (e : TextFault) → ReadsRow form y (take held xs) (Err e) z after → Halts y (rows form (count - i) (take i xs) k) e
  row_halt after e h = subst (λ f. Halts y f e) (sym open_row) (h (count - (i + 1)) k)

pub row_behind : {X : Type 0} (xs ys : List X) (m count : ℕ) → m ≤ count → drop m ys ≡ drop m xs → drop count ys ≡ drop count xs
row_behind xs ys m count l e =
    let n : m + (count - m) ≡ count = omega arith in
    sym (drop-drop (count - m) m ys ∙ ap (λ j. drop j ys) n) ∙ ap (drop (count - m)) e ∙ drop-drop (count - m) m xs ∙ ap (λ j. drop j xs) n

pub row_last : {X : Type 0} (form : ℕ → (X → NetForm) → NetForm) (xs : List X) (i count : ℕ) → i ≡ count → (k : List X → NetForm) → rows form (count - i) (take i xs) k ≡ k (take count xs)
row_last form xs i count e k = rows_end form k count i (take i xs) (omega (arith, e)) ∙ ap (λ n. k (take n xs)) e

pub made_any : {X E : Type 0} (r : Result X E) (P : X → Type 0) → ((x : X) → P x) → IfOk r P
made_any (Ok x) P h = h x
made_any (Err e) P h = tt
