-- The pair of a circuit that was told, and what it says of paces. Assumes nothing.
use Rattle.std.proofs.Common.{◌≡◌, ℕ, suc, ◌+◌, ◌*◌, ◌<◌, ◌≤◌, Bool, true, false, cond, List, [], ◌∷◌, ◌++◌, map, length, get_or, take, ℤ, pos, ◌+ℤ◌, neg_ℤ, nat_abs, sym, refl, ap, ◌∙◌, subst, inl, inr, arith}
use lib.ListN.{length-map, get_or-map}
use lib.IntN.{+ℤ_idr}
use lib.Signed.{lt_z}
use borrow.Author.Differences.{up, down, abs_is, neg_is, sum_is_lem, le_out, lt_out}
use Rattle.std.proofs.lemmas.List.{length-take-le, get_or-take, take-map, map_more}
use Rattle.handover.proofs.Positive.{right_pos}
use Rattle.rules.specs.Net as rules
use Rattle.rules.specs.Net.{Sound}
use Rattle.rules.specs.Rules.{HasTimetable, NoPace}
use Rattle.rules.specs.Steps.{Step, forward, Has, shares, time, shares_of, time_of, ticks_of}
use Rattle.rules.specs.Ranges.{InRange, Sized}
use Rattle.rules.proofs.Chains.{chain_has}
use Rattle.rules.proofs.Paces.{chain_pair, pair_forbids_lem}
use Rattle.rules.proofs.Fastest as fastest
use Rattle.rules.proofs.Sizes.{steps_sized_lem, chains_sized_lem}
use Rattle.rules.proofs.Turned.{shares_join, time_join}
use Rattle.lengths.specs.Models.{more_pair, size_pair}
use Rattle.search.specs.declared.Edge.{Edge}
use Rattle.nets.specs.declared.Net.{Net}
use Rattle.nets.specs.declared.CircuitStep.{CircuitStep}
use Rattle.nets.specs.declared.circuit.Circuit.{Circuit}
use Rattle.nets.specs.declared.sound.SoundNet.{SoundNet}
use Rattle.nets.specs.declared.timed.TimedNet.{TimedNet}
use Rattle.nets.specs.Views.{of_net, of_step, step_of, no_step, Good}
use Rattle.nets.proofs.Alone.{least}
use Rattle.timing.specs.Edges.{pair, edge_in_pairs}
use Rattle.timing.specs.Timing.{Timed, Refused}
use Rattle.timing.specs.declared.Raised.TheVariants.{To, Never}
use Rattle.timing.specs.Pacing.{Named, named_by, pair_of, Raises}
use Rattle.timing.proofs.Orders.{less, no_less}

-- The pair of a chain, step by step

pair_push : (N : rules.Net) (ks : List Step) (s : Step) → pair_of N (ks ++ (s ∷ [])) ≡ (more_pair ◌+ℤ◌) (pair_of N ks) (pair N s)
pair_push N ks s =
    let a : shares_of N (ks ++ (s ∷ [])) ≡ shares_of N ks +ℤ shares N s = shares_join N ks (s ∷ []) ∙ ap (λ z. shares_of N ks +ℤ z) (+ℤ_idr (shares N s)) in
    let b : time_of N (ks ++ (s ∷ [])) ≡ time_of N ks + time N s = omega (arith, time_join N ks (s ∷ [])) in
    λ x. (a x, pos (b x))

pair_sized : (N : rules.Net) → Sound N → InRange N → (ks : List Step) → ((e : ℕ) → e < length ks → Has N (get_or ks e (forward 0))) → (size_pair nat_abs) (pair_of N ks) ≤ length ks * 100_000_000
pair_sized N S R [] h = omega arith
pair_sized N S R (s ∷ ks) h =
    let z = steps_sized_lem N S R s (h 0 (omega arith)) in
    let r = pair_sized N S R ks (λ e k. h (suc e) (omega arith)) in
    omega (arith, z.shares, z.time, abs_is (shares N s), abs_is (shares_of N ks), abs_is (shares N s +ℤ shares_of N ks), sum_is_lem (shares N s) (shares_of N ks))

module _ (N : Net) (G : Good N) (c : Circuit) (R : Refused N c) where
  abbrev M : rules.Net
  M = of_net N

  abbrev cs : List CircuitStep
  cs = c.steps

  abbrev ks : List Step
  ks = map step_of cs

  ks_long : length ks ≡ length cs
  ks_long = length-map cs step_of

  has : (t : ℕ) → t < length cs → Has M (get_or (map step_of cs) t (forward 0))
  has t h =
      let C = R.told.circuit.closed in
      chain_has M ks C.0 C.0 C.1 t (omega (arith, ks_long))

  pub step_has : (t : ℕ) → t < length cs → Has M (of_step (get_or cs t no_step).step)
  step_has t h = subst (Has M) (get_or-map step_of cs t no_step) (has t h)

  -- the steps, as they were read
  module _ (items : List CircuitStep) (q : items ≡ cs) where
    pub step_held : (t : ℕ) → t < length items → ∥ Has M (of_step (get_or items t no_step).step) ∥₁
    step_held t h = ∣ subst (λ xs. Has M (of_step (get_or xs t no_step).step)) (sym q) (step_has t (omega (arith, ap length q))) ∣₁

    -- the sum of the first t of them
    module _ (t : ℕ) (h : t < length items) (sum : ℤ × ℤ) (so : sum ≡ pair_of M (map step_of (take t cs))) (e : Edge (ℤ × ℤ)) (read : e ≡ edge_in_pairs M (of_step (get_or items t no_step).step)) where
      ee : e ≡ edge_in_pairs M (of_step (get_or cs t no_step).step)
      ee = read ∙ ap (λ xs. edge_in_pairs M (of_step (get_or xs t no_step).step)) q

      inside : t < length cs
      inside = omega (arith, ap length q)

      abbrev fs : List Step
      fs = map step_of (take t cs)

      fs_long : length fs ≡ t
      fs_long = length-map (take t cs) step_of ∙ length-take-le t cs (omega (arith, inside))

      fs_has : (i : ℕ) → i < length fs → Has M (get_or fs i (forward 0))
      fs_has i k =
          let g : i < t = omega (arith, fs_long) in
          subst (Has M) (sym (ap (λ z. get_or z i (forward 0)) (sym (take-map step_of t cs)) ∙ get_or-take t (map step_of cs) i (forward 0) g)) (has i (omega (arith, inside)))

      pub join_room : (size_pair nat_abs) sum + (size_pair nat_abs) e.length ≤ 0x7fff_ffff_ffff_ffff
      join_room =
          let z = pair_sized M G.sound G.range fs fs_has in
          let y = steps_sized_lem M G.sound G.range (of_step (get_or cs t no_step).step) (step_has t inside) in
          omega (arith, fs_long, inside, R.few, y.shares, y.time, ap (size_pair nat_abs) so, ap (λ (x : Edge (ℤ × ℤ)). (size_pair nat_abs) x.length) ee)

      pub join_more : (more_pair ◌+ℤ◌) sum e.length ≡ pair_of M (map step_of (take (t + 1) cs))
      join_more =
          let l = ap (λ (z : Edge (ℤ × ℤ)). z.length) ee in
          (λ x. (more_pair ◌+ℤ◌) (so x) (l x))
          ∙ sym (pair_push M fs (of_step (get_or cs t no_step).step))
          ∙ ap (pair_of M) (sym (map_more step_of cs t no_step inside))

  sized : Sized (shares_of M ks) (time_of M ks) (ticks_of M ks) (length ks)
  sized = let C = R.told.circuit.closed in chains_sized_lem M G.sound G.range C.0 C.0 ks C.1

  pub time_small : time_of M ks ≤ 640_000
  time_small = omega (arith, sized.time, ks_long, R.few)

  shares_small : nat_abs (shares_of M ks) ≤ 6_400_000_000
  shares_small = omega (arith, sized.shares, ks_long, R.few)

  above : N.pace.share * down (shares_of M ks) < N.pace.unit * time_of M ks + N.pace.share * up (shares_of M ks)
  above = let p = chain_pair M ks in omega (arith, lt_out (pos 0) (ticks_of M ks) R.told.above)

  never : lt_z (shares_of M ks) (pos 0) ≡ false → NoPace M
  never e =
      let s = shares_of M ks in
      let l = le_out (pos 0) s (no_less s (pos 0) e) in
      elim (fastest.told N.pace.share N.pace.unit (time_of M ks) s G.sound.share above) [
        | inl p ↦ pair_forbids_lem M G.sound ks R.told.circuit p
        | inr (n, h, f, g) ↦ absurd (omega (arith, ap up f, ap down f, neg_is (pos n)))
      ]

  slower : lt_z (shares_of M ks) (pos 0) ≡ true → Named M (record { share = time_of M ks; unit = nat_abs (shares_of M ks) }) × (N.pace.share * nat_abs (shares_of M ks) < N.pace.unit * time_of M ks)
  slower e =
      let s = shares_of M ks in
      let t = time_of M ks in
      let l = lt_out s (pos 0) (less s (pos 0) e) in
      elim (fastest.told N.pace.share N.pace.unit t s G.sound.share above) [
        | inl (inl p) ↦ absurd (omega (arith, lt_out (pos 0) s p))
        | inl (inr (p, h)) ↦ absurd (omega (arith, ap up p, ap down p))
        | inr (n, h, f, g) ↦
            (let m : nat_abs s ≡ n = omega (arith, ap up f, ap down f, neg_is (pos n), abs_is s) in (
              record {
                steps = ks;
                circuit = R.told.circuit;
                shares = f ∙ ap (λ z. neg_ℤ (pos z)) (sym m);
                time = refl;
                share = (omega (arith, right_pos N.pace.unit t (omega (arith, g))), time_small);
                unit = (omega arith, shares_small);
              },
              omega (arith, g, ap (λ z. N.pace.share * z) m),
            ))
      ]

  by_test : (b : Bool) → lt_z (shares_of M ks) (pos 0) ≡ b → Raises M N.pace (cond b (To (record { share = time_of M ks; unit = nat_abs (shares_of M ks) })) Never)
  by_test true e = slower e
  by_test false e = never e

  pub raises : Raises M N.pace (named_by (pair_of M ks))
  raises = by_test (lt_z (shares_of M ks) (pos 0)) refl

pub enough : (net : SoundNet) (t : TimedNet) → Timed net t → HasTimetable (of_net net.net)
enough net t T =
    let l = least (of_net t.net.net) (take t.net.net.stations t.starts) t.least in
    subst (λ (z : SoundNet). HasTimetable (of_net z.net)) T.its_net (record { scale = 1; starts = take t.net.net.stations t.starts }, l.fits, l.keeps)
