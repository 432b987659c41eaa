use Rattle.std.proofs.Common.{◌≡◌, ℕ, ◌-◌, ◌≤◌, List, ◌++◌, length, drop, replicate, ap, ◌∙◌, arith}
use Rattle.std.proofs.lemmas.List.{length-append, length-replicate, drop_at, drop-replicate}
use Rattle.search.proofs.Circuit.new.Goals as goal

abbrev zeros : ℕ → List ℕ
zeros n = replicate n 0

-- a chain, and zeros behind it
filled : (front : List ℕ) (n : ℕ) → length front ≡ n → n ≤ 64 → (n ≤ 64) × (length (front ++ drop n (zeros 64)) ≡ 64) × (drop n (front ++ drop n (zeros 64)) ≡ zeros (64 - n))
filled front n long few =
    let rest = drop-replicate {X = ℕ} n 64 0 in
    (few, omega (arith, few, long, length-append front (drop n (zeros 64)), ap length rest, length-replicate {A = ℕ} (64 - n) 0), drop_at front (drop n (zeros 64)) n long ∙ rest)

pub invariant_of-result : goal.invariant_of-result
invariant_of-result c = filled c.copy_from_slice.new.self c.len-count.result (omega (arith, ap length c.copy_from_slice.ensures.after, ap length c.deref.ensures.0, c.len-count.ensures.value)) c.len-count.ensures.fits
