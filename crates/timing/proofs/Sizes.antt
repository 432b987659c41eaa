-- A step's edge with its pair, measured, and turned into ticks. Assumes nothing.
use Rattle.std.proofs.Common.{◌≡◌, ℕ, suc, ◌*◌, ◌<◌, ◌≤◌, get_or, ℤ, pos, negsuc, ◌+ℤ◌, ◌*ℤ◌, neg_ℤ, nat_abs, sym, ap, ◌∙◌, mul-le-mul, arith, w64, to_z, of_z}
use borrow.Author.Differences.{abs_is, neg_is, fits_in}
use Rattle.std.proofs.lemmas.Int.{to_z-of_z}
use Rattle.rules.specs.Net.{duration}
use Rattle.rules.specs.Steps.{Step, Has, leads_from, shares, time, ticks}
use Rattle.rules.proofs.Existence.{from_inside}
use Rattle.rules.proofs.Sizes.{steps_sized_lem}
use Rattle.lengths.specs.declared.Ticks.{Ticks}
use Rattle.lengths.specs.Models.{of_ticks}
use Rattle.search.specs.declared.Edge.{Edge}
use Rattle.nets.specs.declared.Net.{Net}
use Rattle.nets.specs.Views.{of_net, Good}
use Rattle.timing.specs.Edges.{edge_in_pairs, edge_in_ticks}
use Rattle.timing.proofs.Opened.{station, duration_read}

product_small : (a : ℕ) (s : ℤ) → a ≤ 1_000_000 → nat_abs s ≤ 100_000_000 → nat_abs (pos a *ℤ s) ≤ 100_000_000_000_000
product_small a (pos n) h k = let p : a * n ≤ 1_000_000 * 100_000_000 = mul-le-mul h k in omega arith
product_small a (negsuc n) h k =
    let p : a * suc n ≤ 1_000_000 * 100_000_000 = mul-le-mul h k in
    omega (arith, abs_is (neg_ℤ (pos (a * suc n))), neg_is (pos (a * suc n)))

module _ (N : Net) (G : Good N) (s : Step) (h : Has (of_net N) s) (e : Edge (ℤ × ℤ)) (p : e ≡ edge_in_pairs (of_net N) s) where
  from_in : e.from < N.stations
  from_in = omega (arith, station N (leads_from (of_net N) s) (from_inside (of_net N) G.sound s h), ap (λ (z : Edge (ℤ × ℤ)). z.from) p)

  pub from_small : e.from < 64
  from_small = omega (arith, from_in, G.whole.few)

  time_is : get_or N.durations e.from 0 ≡ time (of_net N) s
  time_is = sym (duration_read N e.from from_in) ∙ ap (λ (z : Edge (ℤ × ℤ)). duration (of_net N) z.from) p

  pub time_small : N.pace.unit * get_or N.durations e.from 0 ≤ 100_000_000_000_000
  time_small =
      let t : get_or N.durations e.from 0 ≤ 10_000 = omega (arith, time_is, (steps_sized_lem (of_net N) G.sound G.range s h).time) in
      let q : N.pace.unit * get_or N.durations e.from 0 ≤ 10_000_000_000 * 10_000 = mul-le-mul G.range.unit t in
      omega arith

  shares_is : e.length.0 ≡ shares (of_net N) s
  shares_is = ap (λ (z : Edge (ℤ × ℤ)). z.length.0) p

  small : nat_abs e.length.0 ≤ 100_000_000
  small = omega (arith, ap nat_abs shares_is, (steps_sized_lem (of_net N) G.sound G.range s h).shares)

  kept : to_z w64 (of_z w64 e.length.0) ≡ e.length.0
  kept = let k = small in to_z-of_z w64 e.length.0 (fits_in w64 e.length.0 (omega (arith, abs_is e.length.0)))

  pub shares_small : nat_abs (pos N.pace.share *ℤ to_z w64 (of_z w64 e.length.0)) ≤ 100_000_000_000_000
  shares_small = rw kept (product_small N.pace.share e.length.0 G.range.share small)

  pub ticks_are : pos (N.pace.unit * get_or N.durations e.from 0) +ℤ pos N.pace.share *ℤ to_z w64 (of_z w64 e.length.0) ≡ ticks (of_net N) s
  ticks_are = let q = kept ∙ shares_is in λ x. pos (N.pace.unit * time_is x) +ℤ pos N.pace.share *ℤ q x

  pub tick_edge_is : (t : ℤ) → t ≡ ticks (of_net N) s → ◌≡◌ {A = Edge Ticks} (record { from = e.from; to = e.to; length = of_ticks t }) (edge_in_ticks (of_net N) s)
  tick_edge_is t q = λ x. record { from = (p x).from; to = (p x).to; length = of_ticks (q x) }
