-- The order of lengths with steps. Assumes nothing.
use Rattle.std.specs.Prelude.{◌≡◌, Bool, ◌+ℤ◌, int_lt, refl}
use Rattle.std.specs.declared.cmp.Ordering.{Ordering}
use Rattle.std.specs.Ordering.{ordering_then, int_cmp, flip_args}
use Rattle.std.specs.Cmp.{IsTotalOrder}
use Rattle.std.proofs.Common.{ap, ◌∙◌, arith, rules}
use Rattle.std.proofs.lemmas.Int.{ints}
use Rattle.lengths.specs.Laws.{OrderLaws, comes_before}
use Rattle.lengths.specs.Turns.{turn_order}
use Rattle.lengths.specs.PairLaws.{lex_order}
use Rattle.finer.specs.declared.Counted.{Counted}
use Rattle.finer.specs.Model.{with_steps, more_steps, below_steps}

-- numbers, of which the greater comes first
back_order : OrderLaws ◌+ℤ◌ (comes_before (flip_args int_cmp))
back_order = search rules

-- the same by test
back_below : OrderLaws ◌+ℤ◌ (λ a b. int_lt b a)
back_below = record {
  irreflexive = λ x. grind (arith, ints);
  transitive = λ x y z p q. grind (arith, ints);
  total = λ x y p q. grind (arith, ints);
  kept = λ x y z p. grind (arith, ints);
}

same : {L : Type 0} (x y : Counted L) → x.length ≡ y.length → x.steps.0 ≡ y.steps.0 → x ≡ y
same x y p q = ap (λ l. with_steps l x.steps.0) p ∙ ap (with_steps y.length) q

-- Any order of lengths that keeps the laws, and then the steps.
pub steps_below : {L : Type 0} {joined : L → L → L} {below : L → L → Bool} → OrderLaws joined below → OrderLaws (more_steps joined) (below_steps below)
steps_below o = turn_order (λ x. x.length) (λ x. x.steps.0) same (λ x y. refl) (λ x y. refl) o back_below

-- The order that `cmp` gives them.
module _ {L : Type 0} {joined : L → L → L} {cmp : L → L → Ordering} (t : IsTotalOrder cmp) (o : OrderLaws joined (comes_before cmp)) where
  pub steps_order : OrderLaws (more_steps joined) (comes_before (λ x y. ordering_then (cmp x.length y.length) (int_cmp y.steps.0 x.steps.0)))
  steps_order =
      lex_order (λ (x : Counted L). x.length) (λ x. x.steps.0) same (λ x y. refl) (λ x y. refl) cmp (flip_args int_cmp) t o back_order
