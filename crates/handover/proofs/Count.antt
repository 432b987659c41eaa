-- `count` counts. Assumes nothing.
use Rattle.std.proofs.Common.{◌≡◌, ℕ, ◌+◌, ◌-◌, ◌*◌, ◌/◌, ◌<◌, ◌≤◌, Bool, true, false, cond, ltb, ◌↔◌, refl, le-div_iff_mul-le, arith}
use Rattle.std.proofs.lemmas.Bool.{ltb-true, ltb-false}
use Rattle.handover.specs.Supply.{count}
use Rattle.handover.specs.Law.{Counts}

-- the same, with q - 1 as n
counts_at : (b : Bool) (s P t n : ℕ) → ltb t s ≡ b → 1 ≤ P → (n < cond b 0 ((t - s) / P + 1)) ↔ (s + n * P ≤ t)
counts_at true s P t n e h = let lt = ltb-true t s e in (λ k. omega arith, λ k. omega arith)
counts_at false s P t n e h =
    let le = ltb-false t s e in
    let div = le-div_iff_mul-le {x = n} {y = t - s} h in
    (λ k. let l : n ≤ (t - s) / P = omega arith in omega (arith, div.0 l), λ k. let l : n * P ≤ t - s = omega arith in omega (arith, div.1 l))

pub arrived : (s P t n : ℕ) → 1 ≤ P → (n < count s P t) ↔ (s + n * P ≤ t)
arrived s P t n h = counts_at (ltb t s) s P t n refl h

pub counts : Counts
counts s P t q h k =
    let a = arrived s P t (q - 1) h in
    (λ l. a.0 (omega arith), λ l. let m = a.1 l in omega arith)
