-- What the types of the crate carry can be shown in one way only, and so it comes out again. Assumes nothing.
use mathlib.Core.Logic.{∥∥₁_elim, inl, inr}
use mathlib.Core.HLevel.{is_prop→PathP}
use native.Mathlib.Bridge.{le_prop}
use Rattle.std.proofs.Common.{◌≡◌, ℕ, ◌⊎◌, List, Some, Option, refl, subst}
use Rattle.std.specs.Coded.{Coded, Coded-set, code_by, coded_ℕ, coded×, coded⊎, coded_list, coded_option}
use Rattle.rules.specs.Net.{Net, Link, Open}
use Rattle.rules.specs.Steps.{Step, forward, back, own, Has}
use Rattle.nets.specs.declared.Step as code
use Rattle.nets.specs.Views.{of_step}

link_code : Coded Link
link_code =
    code_by (ℕ × (ℕ × (ℕ × (ℕ × (ℕ × Option ℕ))))) (coded× coded_ℕ (coded× coded_ℕ (coded× coded_ℕ (coded× coded_ℕ (coded× coded_ℕ (coded_option coded_ℕ))))))
    (λ l. (l.i, (l.j, (l.w, (l.v, (l.u, l.c)))))) (λ t. record { i = t.0; j = t.1.0; w = t.1.1.0; v = t.1.1.1.0; u = t.1.1.1.1.0; c = t.1.1.1.1.1 }) (λ l. refl)

parts : Step → ℕ ⊎ (ℕ ⊎ ℕ)
parts (forward k) = inl k
parts (back k) = inr (inl k)
parts (own i) = inr (inr i)

whole : ℕ ⊎ (ℕ ⊎ ℕ) → Step
whole (inl k) = forward k
whole (inr (inl k)) = back k
whole (inr (inr i)) = own i

whole_parts : (s : Step) → whole (parts s) ≡ s
unfolding whole parts
whole_parts (forward k) = refl
whole_parts (back k) = refl
whole_parts (own i) = refl

step_code : Coded Step
step_code = code_by (ℕ ⊎ (ℕ ⊎ ℕ)) (coded⊎ coded_ℕ (coded⊎ coded_ℕ coded_ℕ)) parts whole whole_parts

has_prop : (N : Net) (s : Step) → IsProp (Has N s)
has_prop N (forward k) x y =
    let p : x.0 ≡ y.0 = cc (x.1, y.1) in
    λ t. (p t, is_prop→PathP (λ t. Open N k (p t)) (λ t. Coded-set (coded_option link_code) _ _) x.1 y.1 t)
has_prop N (back k) x y =
    let p : x.0 ≡ y.0 = cc (x.2, y.2) in
    let q : x.1 ≡ y.1 = cc (p, x.3, y.3) in
    λ t. (
      p t,
      q t,
      is_prop→PathP (λ t. Open N k (p t)) (λ t. Coded-set (coded_option link_code) _ _) x.2 y.2 t,
      is_prop→PathP (λ t. (p t).c ≡ Some (q t)) (λ t. Coded-set (coded_option coded_ℕ) _ _) x.3 y.3 t,
    )
has_prop N (own i) x y = le_prop x y

-- A step that a net has, read as the variant that it is.
pub has : (N : Net) (s t : code.Step) → ∥ Has N (of_step s) ∥₁ → s ≡ t → Has N (of_step t)
has N s t h e = subst (λ z. Has N (of_step z)) e (∥∥₁_elim h (has_prop N (of_step s)) (λ x. x))

pub all : (xs ys : List Step) → ∥ xs ≡ ys ∥₁ → xs ≡ ys
all xs ys h = ∥∥₁_elim h (Coded-set (coded_list step_code) xs ys) (λ x. x)
