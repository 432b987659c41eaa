-- The laws of numbers and of pairs, and of orders by `cmp` in turn. Assumes nothing.
use Rattle.std.specs.Prelude.{◌≡◌, ℕ, ◌+◌, ◌≤◌, true, false, cond, ℤ, pos, ◌+ℤ◌, neg_ℤ, unsigned_abs, refl}
use Rattle.std.specs.declared.cmp.Ordering.{Ordering}
use Rattle.std.specs.declared.cmp.Ordering.TheVariants.{Less, Equal, Greater}
use Rattle.std.specs.Ordering.{ordering_then, ordering_reverse, is_lt}
use Rattle.std.specs.Cmp.{IsTotalOrder}
use Rattle.std.proofs.Common.{arith, ap, ◌∙◌, subst}
use Rattle.std.proofs.lemmas.Int.{ints}
use Rattle.lengths.specs.Laws.{JoinLaws, OrderLaws, comes_before}
use Rattle.lengths.specs.Models.{more_pair, back_pair, size_pair}
use Rattle.lengths.specs.Turns.{both, turn_order}

size_sum : (a b : ℤ) → unsigned_abs (a +ℤ b) ≤ unsigned_abs a + unsigned_abs b
size_sum a b = omega (arith, ints)

pub number_join : JoinLaws (pos 0) ◌+ℤ◌ neg_ℤ unsigned_abs
number_join = record {
  assoc = λ x y z. omega (arith, ints);
  comm = λ x y. omega (arith, ints);
  left = λ x. omega (arith, ints);
  undo = λ x. omega (arith, ints);
  size_neutral = refl;
  size_joined = size_sum;
}

in_turn_is : (r s : Ordering) → cond (is_lt r) true (cond (is_lt (ordering_reverse r)) false (is_lt s)) ≡ is_lt (ordering_then r s)
in_turn_is Less s = refl
in_turn_is Equal s = refl
in_turn_is Greater s = refl

-- An order by one length and then, where that is the same, by another keeps the laws that both keep.
module _ {L A B : Type 0} (first : L → A) (second : L → B) (alike : (x y : L) → first x ≡ first y → second x ≡ second y → x ≡ y)
    {joined : L → L → L} {add : A → A → A} {add' : B → B → B} (first_joined : (x y : L) → first (joined x y) ≡ add (first x) (first y)) (second_joined : (x y : L) → second (joined x y) ≡ add' (second x) (second y))
    (cmp : A → A → Ordering) (cmp' : B → B → Ordering) (t : IsTotalOrder cmp) (o : OrderLaws add (comes_before cmp)) (o' : OrderLaws add' (comes_before cmp')) where
  by_cmp : (x y : L) → cond (comes_before cmp (first x) (first y)) true (cond (comes_before cmp (first y) (first x)) false (comes_before cmp' (second x) (second y))) ≡ is_lt (ordering_then (cmp (first x) (first y)) (cmp' (second x) (second y)))
  by_cmp x y =
      ap (λ r. cond (comes_before cmp (first x) (first y)) true (cond (is_lt r) false (comes_before cmp' (second x) (second y)))) (t.antisymm (first y) (first x))
      ∙ in_turn_is (cmp (first x) (first y)) (cmp' (second x) (second y))

  pub lex_order : OrderLaws joined (comes_before (λ x y. ordering_then (cmp (first x) (first y)) (cmp' (second x) (second y))))
  lex_order = subst (OrderLaws joined) (λ i x y. by_cmp x y i) (turn_order first second alike first_joined second_joined o o')

module _ {L : Type 0} where
  pub pair_join : {neutral : L} {joined : L → L → L} {opposite : L → L} {size : L → ℕ} → JoinLaws neutral joined opposite size → JoinLaws (neutral, neutral) (more_pair joined) (back_pair opposite) (size_pair size)
  pair_join j = record {
    assoc = λ x y z. both (j.assoc x.0 y.0 z.0) (j.assoc x.1 y.1 z.1);
    comm = λ x y. both (j.comm x.0 y.0) (j.comm x.1 y.1);
    left = λ x. both (j.left x.0) (j.left x.1);
    undo = λ x. both (j.undo x.0) (j.undo x.1);
    size_neutral = omega (arith, j.size_neutral);
    size_joined = λ x y. omega (arith, j.size_joined x.0 y.0, j.size_joined x.1 y.1);
  }

  pub pair_order : {joined : L → L → L} {cmp : L → L → Ordering} → IsTotalOrder cmp → OrderLaws joined (comes_before cmp) → OrderLaws (more_pair joined) (comes_before (λ x y. ordering_then (cmp x.0 y.0) (cmp x.1 y.1)))
  pair_order t o = lex_order (λ x. x.0) (λ x. x.1) (λ x y p q. both p q) (λ x y. refl) (λ x y. refl) _ _ t o o
