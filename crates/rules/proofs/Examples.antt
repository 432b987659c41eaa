-- The worked examples. Assumes nothing.
use Rattle.std.proofs.Common.{◌≡◌, ℕ, zero, suc, ◌<◌, List, [], ◌∷◌, get_or, pos, neg_ℤ, refl, inr, arith, lit≤}
use lib.Signed.{lt_z_yes}
use Rattle.rules.specs.Net.{Fits, whole}
use Rattle.rules.specs.Steps.{Step, forward, back, own, Chain, Circuit, ticks_of}
use Rattle.rules.specs.Rules.{Least, NoPace}
use Rattle.rules.specs.Paces.{Fastest}
use Rattle.handover.proofs.Gcd.{coprime}
use Rattle.rules.proofs.Paces.{pair_forbids_lem}
use Rattle.rules.proofs.Fastest.{fastest_when_lem}
use Rattle.rules.specs.Examples.{two, one, between, Refused, Worked}
use Rattle.rules.proofs.Tested.{sound_tested, range_tested, keeps_tested, every_tested}
use Rattle.rules.proofs.Chains.{circuit_forbids_lem, least_when_reached_lem}

two_reached : (y : ℕ) → y < 2 → (x : ℕ) × (c : List Step) × Chain (two 14 2 1) x c y × (ticks_of (two 14 2 1) c ≡ pos (get_or (0 ∷ 7 ∷ []) y 0))
two_reached zero h = (0, [], refl, refl)
two_reached (suc zero) h = (0, forward 0 ∷ [], ((between 14, refl), refl, refl), refl)
two_reached (suc (suc y)) h = absurd (omega arith)

one_reached : (y : ℕ) → y < 1 → (x : ℕ) × (c : List Step) × Chain (one 5 1) x c y × (ticks_of (one 5 1) c ≡ pos (get_or (0 ∷ []) y 0))
one_reached zero h = (0, [], refl, refl)
one_reached (suc y) h = absurd (omega arith)

two_least : Least (two 14 2 1) (0 ∷ 7 ∷ [])
two_least =
    let l = least_when_reached_lem (two 14 2 1) (sound_tested (two 14 2 1) tt) (0 ∷ 7 ∷ []) refl (every_tested (two 14 2 1) (whole (0 ∷ 7 ∷ [])) tt) two_reached in
    record { fits = record { scaled = lit≤ tt; complete = refl }; keeps = l.0; least = l.1 }

one_least : Least (one 5 1) (0 ∷ [])
one_least =
    let l = least_when_reached_lem (one 5 1) (sound_tested (one 5 1) tt) (0 ∷ []) refl (every_tested (one 5 1) (whole (0 ∷ [])) tt) one_reached in
    record { fits = record { scaled = lit≤ tt; complete = refl }; keeps = l.0; least = l.1 }

-- the link forward and back, at any capacity and pace
there_and_back : (c A B : ℕ) → Circuit (two c A B) (forward 0 ∷ back 0 ∷ [])
there_and_back c A B = record { closed = (0, ((between c, refl), refl, ((between c, c, refl, refl), refl, refl))); once = ((λ e. omega arith, tt), (tt, tt)) }

one_circuit : Circuit (one 4 1) (own 0 ∷ [])
one_circuit = record { closed = (0, (lit≤ tt, refl, refl)); once = (tt, tt) }

two_refused : Refused (two 14 9 5) (forward 0 ∷ back 0 ∷ []) (pos 33 ∷ neg_ℤ (pos 29) ∷ [])
two_refused = record { circuit = there_and_back 14 9 5; measured = refl; none = circuit_forbids_lem (two 14 9 5) (sound_tested (two 14 9 5) tt) _ (there_and_back 14 9 5) (lt_z_yes tt) }

one_refused : Refused (one 4 1) (own 0 ∷ []) (pos 1 ∷ [])
one_refused = record { circuit = one_circuit; measured = refl; none = circuit_forbids_lem (one 4 1) (sound_tested (one 4 1) tt) _ one_circuit (lt_z_yes tt) }

fits : (c A B x y : ℕ) → Fits (two c A B) (whole (x ∷ y ∷ []))
fits c A B x y = record { scaled = lit≤ tt; complete = refl }

fastest_14 : Fastest (two 14 1 1) 2 1
fastest_14 =
    fastest_when_lem (two 14 1 1) (sound_tested (two 14 1 1) tt) 2 1 (lit≤ tt) (lit≤ tt) ((coprime 2 1).0 refl)
    (whole (0 ∷ 7 ∷ []), fits 14 2 1 0 7, keeps_tested (two 14 2 1) (sound_tested (two 14 2 1) tt) (whole (0 ∷ 7 ∷ [])) (fits 14 2 1 0 7) tt)
    (forward 0 ∷ back 0 ∷ []) (record { circuit = there_and_back 14 1 1; less = 4; some = lit≤ tt; shares = refl; even = refl })

fastest_13 : Fastest (two 13 1 1) 8 3
fastest_13 =
    fastest_when_lem (two 13 1 1) (sound_tested (two 13 1 1) tt) 8 3 (lit≤ tt) (lit≤ tt) ((coprime 8 3).0 refl)
    (whole (0 ∷ 25 ∷ []), fits 13 8 3 0 25, keeps_tested (two 13 8 3) (sound_tested (two 13 8 3) tt) (whole (0 ∷ 25 ∷ [])) (fits 13 8 3 0 25) tt)
    (forward 0 ∷ back 0 ∷ []) (record { circuit = there_and_back 13 1 1; less = 3; some = lit≤ tt; shares = refl; even = refl })

fastest_8 : Fastest (two 8 1 1) 8 1
fastest_8 =
    fastest_when_lem (two 8 1 1) (sound_tested (two 8 1 1) tt) 8 1 (lit≤ tt) (lit≤ tt) ((coprime 8 1).0 refl)
    (whole (0 ∷ 19 ∷ []), fits 8 8 1 0 19, keeps_tested (two 8 8 1) (sound_tested (two 8 8 1) tt) (whole (0 ∷ 19 ∷ [])) (fits 8 8 1 0 19) tt)
    (forward 0 ∷ back 0 ∷ []) (record { circuit = there_and_back 8 1 1; less = 1; some = lit≤ tt; shares = refl; even = refl })

none_7 : NoPace (two 7 1 1)
none_7 = pair_forbids_lem (two 7 1 1) (sound_tested (two 7 1 1) tt) (forward 0 ∷ back 0 ∷ []) (there_and_back 7 1 1) (inr (refl, lit≤ tt))

pub worked : Worked
worked =
    record {
      sound = (sound_tested (two 14 2 1) tt, sound_tested (two 14 9 5) tt, sound_tested (one 5 1) tt, sound_tested (one 4 1) tt);
      in_range = (range_tested (two 14 2 1) tt, range_tested (two 14 9 5) tt, range_tested (one 5 1) tt, range_tested (one 4 1) tt);
      two_starts = two_least;
      two_periods = refl;
      two_stock = refl;
      two_taken = refl;
      two_faster = two_refused;
      one_starts = one_least;
      one_faster = one_refused;
      two_fastest = (fastest_14, fastest_13, fastest_8);
      two_none = none_7;
    }
