-- A length with the number of steps that it was joined from. Assumes nothing.
use Rattle.std.specs.Prelude.{ℕ, max, Bool, true, false, cond, ℤ, pos, ◌+ℤ◌, neg_ℤ, int_lt, unsigned_abs}
use Rattle.finer.specs.declared.Counted.{Counted}

abbrev pub with_steps : {L : Type 0} → L → ℤ → Counted L
with_steps l n = record { length = l; steps = record { 0 = n } }

-- None, two lengths joined, the opposite of one, and its size: each of the length and of the steps.
abbrev pub no_steps : {L : Type 0} → L → Counted L
no_steps neutral = with_steps neutral (pos 0)

abbrev pub more_steps : {L : Type 0} → (L → L → L) → Counted L → Counted L → Counted L
more_steps joined x y = with_steps (joined x.length y.length) (x.steps.0 +ℤ y.steps.0)

abbrev pub back_steps : {L : Type 0} → (L → L) → Counted L → Counted L
back_steps opposite x = with_steps (opposite x.length) (neg_ℤ x.steps.0)

abbrev pub size_steps : {L : Type 0} → (L → ℕ) → Counted L → ℕ
size_steps size x = max (size x.length) (unsigned_abs x.steps.0)

-- Of two equal lengths the one with more steps is below.
abbrev pub below_steps : {L : Type 0} → (L → L → Bool) → Counted L → Counted L → Bool
below_steps below x y = cond (below x.length y.length) true (cond (below y.length x.length) false (int_lt y.steps.0 x.steps.0))
