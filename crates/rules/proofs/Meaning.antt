-- What the rules' numbers mean. Assumes nothing.
use Rattle.std.proofs.Common.{ℕ, ◌+◌, ◌-◌, ◌*◌, ◌≤◌, ◌↔◌, pos, ◌-ℤ◌, ◌≤ℤ◌, mul-pos, arith}
use Rattle.handover.proofs.Count.{counts}
use Rattle.rules.specs.Net.{start}
use Rattle.rules.specs.Rules.{period, lasts, begun, ended}
use Rattle.rules.specs.Theorems.{FiringsCounted, StocksKept}
use Rattle.rules.proofs.Differences.{is_pos, is_less, is_le}

pub firings_counted_lem : FiringsCounted
firings_counted_lem N S T F i q t h hq =
    let P : 1 ≤ period N T i = mul-pos (mul-pos F.scaled S.share) (S.recurring i h) in
    let b = counts (start T i) (period N T i) t q P hq in
    let e = counts (start T i + lasts N T i) (period N T i) t q P hq in
    (b, (λ k. (later (start T i) (lasts N T i) ((q - 1) * period N T i) t).0 (e.0 k), λ k. e.1 ((later (start T i) (lasts N T i) ((q - 1) * period N T i) t).1 k)))
  where
    later : (s D n t : ℕ) → (s + D + n ≤ t) ↔ (s + n + D ≤ t)
    later s D n t = (λ h. omega arith, λ h. omega arith)

at_least : (p n : ℕ) → (n ≤ p) ↔ (pos 0 ≤ℤ (pos p -ℤ pos n))
at_least p n =
    let l = is_le (pos 0) (pos p -ℤ pos n) 0 0 _ _ (is_pos 0) (is_less (pos p) (pos n) _ _ _ _ (is_pos p) (is_pos n)) in
    (λ h. l.1 (omega arith), λ h. omega (arith, l.0 h))

at_most : (p n c : ℕ) → (p ≤ c + n) ↔ ((pos p -ℤ pos n) ≤ℤ pos c)
at_most p n c =
    let l = is_le (pos p -ℤ pos n) (pos c) _ _ _ _ (is_less (pos p) (pos n) _ _ _ _ (is_pos p) (is_pos n)) (is_pos c) in
    (λ h. l.1 (omega arith), λ h. omega (arith, l.0 h))

pub stocks_kept_lem : StocksKept
stocks_kept_lem N T = (
  (
    λ S k l o t. (at_least (l.u + l.w * ended N T l.i t) (l.v * begun N T l.j t)).0 (S k l o t),
    λ S k l o t. (at_least (l.u + l.w * ended N T l.i t) (l.v * begun N T l.j t)).1 (S k l o t),
  ),
  (
    λ S k l c o f t. (at_most (l.u + l.w * begun N T l.i t) (l.v * ended N T l.j t) c).0 (S k l c o f t),
    λ S k l c o f t. (at_most (l.u + l.w * begun N T l.i t) (l.v * ended N T l.j t) c).1 (S k l c o f t),
  ),
)
