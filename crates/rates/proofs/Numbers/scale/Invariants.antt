use Rattle.std.proofs.Common.{◌≡◌, ℕ, ◌*◌, ◌<◌, ◌≤◌}
use Rattle.rates.specs.Reaching.{number}
use Rattle.rates.proofs.Numbers.scale.Given as goal

abbrev pub invariant-loop-n : goal.invariant-loop-n
invariant-loop-n l =
    ((i : ℕ) → i < l.n-index → (number l.n-items i ≡ number l.initial.n-items i * l.m) × (number l.n-items i ≤ 10_000))
    × ((i : ℕ) → l.n-index ≤ i → number l.n-items i ≡ number l.initial.n-items i)
