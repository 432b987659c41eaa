-- What the search in ticks answers, told of the net. Assumes nothing.
use Rattle.std.proofs.Common.{◌≡◌, ℕ, ◌<◌, ◌≤◌, List, [], ◌∷◌, map, length, All, get_or, take, pos, nat_abs, ◌<ℤ◌, sym, refl, ap, ◌∙◌, subst, inl, inr, arith}
use lib.ListN
use lib.ListN.{length-map}
use Rattle.std.proofs.lemmas.Bool.{cases_lt}
use Rattle.std.proofs.lemmas.List.{length-take-le, get_or-take, get_or-map, get_or_past}
use Rattle.rules.specs.Net as rules
use Rattle.rules.specs.Net.{stations}
use Rattle.rules.specs.Rules.{Least}
use Rattle.rules.specs.Steps.{Step, Has, leads_from, ticks, ticks_of, Circuit as Closed}
use Rattle.rules.proofs.Chains.{circuit_forbids_lem}
use Rattle.rules.proofs.Sizes.{steps_sized_lem}
use Rattle.rules.proofs.Tested.{open_below}
use Rattle.lengths.specs.declared.Ticks.{Ticks}
use Rattle.lengths.specs.Models.{no_ticks, more_ticks, below_ticks}
use Rattle.search.specs.Terms.{LeastStarts, EdgeCircuit}
use Rattle.search.specs.Answer.{NeutralPast}
use Rattle.search.proofs.Walking.{chain_in}
use Rattle.nets.specs.declared.Net.{Net}
use Rattle.nets.specs.declared.Step as code
use Rattle.nets.specs.declared.Step.TheVariants.{Forward, Back, Own}
use Rattle.nets.specs.declared.CircuitStep.{CircuitStep}
use Rattle.nets.specs.Views.{of_net, of_step, step_of, step_number, no_step, Good}
use Rattle.timing.specs.Edges.{edges_of, in_ticks}
use Rattle.timing.specs.Listing.{steps_of}
use Rattle.timing.specs.Timing.{start_of, Lowest, Told, told_step}
use Rattle.timing.proofs.Opened.{stations_are}
use Rattle.timing.proofs.Bridge.{step_at, as_many, many, step_read, step_has, circuit_as, froms_are}
use Rattle.timing.proofs.Ticked.{above_ticks, least_as, start_sized}

module _ (N : Net) (G : Good N) where
  abbrev M : rules.Net
  M = of_net N

  module _ (best : List Ticks) (L : LeastStarts no_ticks more_ticks below_ticks N.stations (edges_of M (in_ticks M)) best) (P : NeutralPast no_ticks N.stations best)
      (starts : List ℕ) (long : length starts ≡ 64) (q : starts ≡ map start_of best) where
    start_read : (y : ℕ) → get_or starts y 0 ≡ start_of (get_or best y no_ticks)
    start_read y = ap (λ z. get_or z y 0) q ∙ ListN.get_or-map start_of best y no_ticks

    abbrev firsts : List ℕ
    firsts = take N.stations starts

    firsts_long : length firsts ≡ stations M
    firsts_long =
        length-take-le N.stations starts (omega (arith, G.whole.few)) ∙ sym (stations_are N G)

    reads : (y : ℕ) → y < N.stations → get_or firsts y 0 ≡ start_of (get_or best y no_ticks)
    reads y h = get_or-take N.stations starts y 0 h ∙ start_read y

    pub least_starts : Least M firsts
    least_starts = least_as M G.sound best N.stations (stations_are N G) L firsts firsts_long reads

    pub rest : (y : ℕ) → N.stations ≤ y → get_or starts y 0 ≡ 0
    rest y h = start_read y ∙ ap start_of (P y h)

    pub starts_sized : (y : ℕ) → get_or starts y 0 < 10_000_000_000_000_000
    starts_sized y =
        elim (cases_lt y N.stations) [
          | inl h ↦ omega (arith, get_or-take N.stations starts y 0 h, start_sized M G.sound best N.stations (stations_are N G) L firsts firsts_long reads G.range y (omega (arith, stations_are N G)))
          | inr h ↦ omega (arith, rest y h)
        ]

  module _ (steps : List code.Step) (all : map of_step steps ≡ steps_of M) where
    abbrev tell : ℕ → CircuitStep
    tell e = told_step M (get_or steps e (Forward 0))

    below_128 : (s : code.Step) → Has M (of_step s) → step_number s < 128
    below_128 (Forward k) (l, o) = omega (arith, open_below M k l o, G.range.numbers)
    below_128 (Back k) (l, c, o, e) = omega (arith, open_below M k l o, G.range.numbers)
    below_128 (Own i) h = omega (arith, G.range.few)

    steps_are : (c : List ℕ) → map step_of (map tell c) ≡ map (step_at M) c
    steps_are [] = refl
    steps_are (e ∷ c) = let p = step_read M steps all e in let q = steps_are c in λ x. p x ∷ q x

    lengths_are : (c : List ℕ) → map (λ s. s.length) (map tell c) ≡ map (ticks M) (map step_of (map tell c))
    lengths_are [] = refl
    lengths_are (e ∷ c) = let q = lengths_are c in λ x. ticks M (of_step (get_or steps e (Forward 0))) ∷ q x

    module _ (c : List ℕ) (C : EdgeCircuit no_ticks more_ticks below_ticks (edges_of M (in_ticks M)) c) where
      pub known_in : All (λ e. e < length steps) c
      known_in t d h = omega (arith, chain_in (edges_of M (in_ticks M)) C.closed.0 c C.closed.0 C.closed.1 t d h, many M (in_ticks M), as_many M steps all)

      abbrev Says : List Step → Type 0
      Says zs = (K : Closed M zs) × (pos 0 <ℤ ticks_of M zs) × Lowest K.closed.0 (map (leads_from M) zs)

      lowest : Lowest C.closed.0 (map (leads_from M) (map (step_at M) c))
      lowest t h =
          let k : t < length c = omega (arith, length-map (map (step_at M) c) (leads_from M), length-map c (step_at M)) in
          omega (arith, froms_are M (in_ticks M) c C.closed.0 C.closed.0 C.closed.1 t k, C.lowest t k)

      says : Says (map (step_at M) c)
      says = (circuit_as M (in_ticks M) c C.closed C.once, above_ticks M c C, lowest)

      pub told_all : Told M (map tell c)
      told_all =
          let q = subst Says (sym (steps_are c)) says in
          record { circuit = q.0; lengths = lengths_are c; above = q.1; lowest = q.2; none = circuit_forbids_lem M G.sound (map step_of (map tell c)) q.0 q.1 }

      module _ (told : List CircuitStep) (q : told ≡ map tell c) (t : ℕ) (h : t < length told) where
        abbrev step : code.Step
        step = get_or steps (get_or c t 0) (Forward 0)

        told_read : get_or told t no_step ≡ told_step M step
        told_read = ap (λ z. get_or z t no_step) q ∙ get_or-map tell c t 0 no_step (omega (arith, ap length q, length-map c tell))

        has : Has M (of_step step)
        has = step_has M steps all (get_or c t 0) (known_in t 0 (omega (arith, ap length q, length-map c tell)))

        pub numbered : step_number (get_or told t no_step).step < 128
        numbered = omega (arith, ap (λ (z : CircuitStep). step_number z.step) told_read, below_128 step has)

        pub sized : nat_abs (get_or told t no_step).length ≤ 10_000_000_000_000_000
        sized = omega (arith, ap (λ (z : CircuitStep). nat_abs z.length) told_read, (steps_sized_lem M G.sound G.range (of_step step) has).ticks)

      pub all_sized : (told : List CircuitStep) → told ≡ map tell c → (t : ℕ) → nat_abs (get_or told t no_step).length ≤ 10_000_000_000_000_000
      all_sized told q t =
          elim (cases_lt t (length told)) [
            | inl h ↦ sized told q t h
            | inr h ↦ omega (arith, ap (λ (z : CircuitStep). nat_abs z.length) (get_or_past told t no_step h))
          ]
