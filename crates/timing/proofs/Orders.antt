-- Tests of whole numbers, as orders, and what `cmp` answers, as tests. Assumes nothing.
use Rattle.std.proofs.Common.{◌≡◌, Bool, true, false, not, cond, T, ℤ, ◌≤ℤ◌, ◌<ℤ◌, sym, refl, subst}
use lib.Signed.{lt_z, lt_z_yes, lt_z_no}
use Rattle.std.specs.declared.cmp.Ordering.TheVariants.{Less, Equal, Greater}
use Rattle.std.specs.Ordering.{ordering_then, is_lt, int_cmp}
use Rattle.lengths.specs.declared.Ticks.{Ticks}
use Rattle.lengths.specs.Models.{below_ticks, below_pair}

pub less : (a b : ℤ) → lt_z a b ≡ true → a <ℤ b
less a b e = lt_z_yes (subst T (sym e) tt)

pub no_less : (a b : ℤ) → lt_z a b ≡ false → b ≤ℤ a
no_less a b e = lt_z_no (subst (λ z. T (not z)) (sym e) tt)

first_is : (p q : Bool) → is_lt (cond p Less (cond q Greater Equal)) ≡ p
first_is true q = refl
first_is false true = refl
first_is false false = refl

then_is : (p q r s : Bool) → is_lt (ordering_then (cond p Less (cond q Greater Equal)) (cond r Less (cond s Greater Equal))) ≡ cond p true (cond q false r)
then_is true q r s = refl
then_is false true r s = refl
then_is false false true s = refl
then_is false false false true = refl
then_is false false false false = refl

pub ticks_order : ◌≡◌ {A = Ticks → Ticks → Bool} (λ x y. is_lt (int_cmp x.ticks y.ticks)) below_ticks
ticks_order = λ t x y. first_is (lt_z x.ticks y.ticks) (lt_z y.ticks x.ticks) t

pub pair_order : ◌≡◌ {A = ℤ × ℤ → ℤ × ℤ → Bool} (λ x y. is_lt (ordering_then (int_cmp x.0 y.0) (int_cmp x.1 y.1))) (below_pair lt_z)
pair_order = λ t x y. then_is (lt_z x.0 y.0) (lt_z y.0 x.0) (lt_z x.1 y.1) (lt_z y.1 x.1) t
