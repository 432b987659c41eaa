use Rattle.std.proofs.Common.{◌≡◌, ℕ, ◌-◌, ◌≤◌, List, ◌++◌, length, drop, replicate, ap, ◌∙◌, arith}
use Rattle.std.proofs.lemmas.List.{length-append, length-replicate, drop_at, drop-replicate}
use Rattle.nets.specs.declared.CircuitStep.{CircuitStep}
use Rattle.nets.specs.Views.{no_step}
use Rattle.nets.proofs.circuit.CircuitSteps.new.Goals as goal

-- steps, and blanks behind them
filled : (front : List CircuitStep) (n : ℕ) (blank : CircuitStep) → blank ≡ no_step → length front ≡ n → n ≤ 64 → (n ≤ 64) × (length (front ++ drop n (replicate 64 blank)) ≡ 64) × (drop n (front ++ drop n (replicate 64 blank)) ≡ replicate (64 - n) no_step)
filled front n blank same long few =
    let rest = drop-replicate n 64 blank in
    (few, omega (arith, few, long, length-append front (drop n (replicate 64 blank)), ap length rest, length-replicate (64 - n) blank), drop_at front (drop n (replicate 64 blank)) n long ∙ rest ∙ ap (replicate (64 - n)) same)

pub invariant_of-result : goal.invariant_of-result
invariant_of-result c =
    let d = c.default-steps.ensures in
    filled c.copy_from_slice.new.self c.len-count.result c.default-steps.result (λ i. record { step = d.0 i; length = d.1 i }) (omega (arith, ap length c.copy_from_slice.ensures.after, ap length c.deref.ensures.0, c.len-count.ensures.value)) c.len-count.ensures.fits
