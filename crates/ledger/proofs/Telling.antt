-- A circuit above zero can be told, from its lowest station; so what passes the check for a timetable has one. Assumes nothing.
use Rattle.std.proofs.Common.{◌≡◌, ℕ, zero, suc, ◌≤◌, List, [], ◌∷◌, ◌++◌, map, pos, ◌<ℤ◌, sym, refl, ap, ◌∙◌, subst, inl, inr, le_trans, arith}
use borrow.Author.Differences.{lt_out}
use Rattle.std.proofs.lemmas.Bool.{cases_lt}
use Rattle.rules.specs.Net.{Net, Sound, whole}
use Rattle.rules.specs.Rules.{HasTimetable}
use Rattle.rules.specs.Steps.{Step, forward, back, own, Circuit, leads_from, ticks, ticks_of}
use Rattle.rules.proofs.Chains.{circuit_forbids_lem}
use Rattle.rules.proofs.Existence.{least_or_circuit_lem}
use Rattle.rules.proofs.Turned.{circuit_turned_lem}
use Rattle.nets.specs.declared.Step as program
use Rattle.nets.specs.declared.Step.TheVariants.{Forward, Back, Own}
use Rattle.nets.specs.declared.CircuitStep.{CircuitStep}
use Rattle.nets.specs.Views.{of_step, step_of}
use Rattle.timing.specs.Timing.{Lowest, Told, told_step}
use Rattle.ledger.specs.Calls.{Call, around}
use Rattle.ledger.specs.Checks.{no_timetable}
use Rattle.ledger.specs.States.{After}
use Rattle.ledger.specs.Runs.{Passes}

-- the steps lead from no station below x
abbrev AtLeast : Net → ℕ → List Step → Type 0
AtLeast N x [] = Unit {0}
AtLeast N x (s ∷ c) = (x ≤ leads_from N s) × AtLeast N x c

-- steps cut before the one that leads from the lowest station
record Cut (N : Net) (c : List Step) : Type 0 where
  before : List Step
  step : Step
  behind : List Step
  whole_is : c ≡ before ++ (step ∷ behind)
  low_before : AtLeast N (leads_from N step) before
  low_behind : AtLeast N (leads_from N step) behind

lower : (N : Net) (x y : ℕ) (c : List Step) → x ≤ y → AtLeast N y c → AtLeast N x c
lower N x y [] h a = tt
lower N x y (s ∷ c) h (l, a) = (le_trans h l, lower N x y c h a)

at_least_join : (N : Net) (x : ℕ) (a b : List Step) → AtLeast N x a → AtLeast N x b → AtLeast N x (a ++ b)
at_least_join N x [] b h k = k
at_least_join N x (s ∷ a) b (l, h) k = (l, at_least_join N x a b h k)

at_least_all : (N : Net) (x : ℕ) (c : List Step) → AtLeast N x c → Lowest x (map (leads_from N) c)
at_least_all N x [] a t h = absurd (omega arith)
at_least_all N x (s ∷ c) (l, a) zero h = l
at_least_all N x (s ∷ c) (l, a) (suc t) h = at_least_all N x c a t (omega arith)

cut : (N : Net) (s : Step) (c : List Step) → Cut N (s ∷ c)
cut N s [] = record { before = []; step = s; behind = []; whole_is = refl; low_before = tt; low_behind = tt }
cut N s (t ∷ c) =
    let k = cut N t c in
    elim (cases_lt (leads_from N k.step) (leads_from N s)) [
      | inl h ↦ record {
        before = s ∷ k.before;
        step = k.step;
        behind = k.behind;
        whole_is = ap (λ z. s ∷ z) k.whole_is;
        low_before = (omega arith, k.low_before);
        low_behind = k.low_behind;
      }
      | inr h ↦ record {
        before = [];
        step = s;
        behind = t ∷ c;
        whole_is = refl;
        low_before = tt;
        low_behind = subst (AtLeast N (leads_from N s)) (sym k.whole_is)
            (at_least_join N (leads_from N s) k.before (k.step ∷ k.behind) (lower N _ _ k.before h k.low_before) (h, lower N _ _ k.behind h k.low_behind));
      }
    ]

-- a step as the program has it, and told with its length
abbrev as_step : Step → program.Step
as_step (forward k) = Forward k
as_step (back k) = Back k
as_step (own i) = Own i

step_same : (s : Step) → of_step (as_step s) ≡ s
step_same (forward k) = refl
step_same (back k) = refl
step_same (own i) = refl

abbrev tell : Net → Step → CircuitStep
tell N s = told_step N (as_step s)

steps_are : (N : Net) (c : List Step) → map step_of (map (tell N) c) ≡ c
steps_are N [] = refl
steps_are N (s ∷ c) = let p = step_same s in let q = steps_are N c in λ x. p x ∷ q x

lengths_are : (N : Net) (c : List Step) → map (λ s. s.length) (map (tell N) c) ≡ map (ticks N) (map step_of (map (tell N) c))
lengths_are N [] = refl
lengths_are N (s ∷ c) = let q = lengths_are N c in λ x. ticks N (of_step (as_step s)) ∷ q x

not_above : pos 0 <ℤ pos 0 → ⊥
not_above h = omega (arith, lt_out (pos 0) (pos 0) h)

abbrev Says : Net → List Step → Type 0
Says N zs = (K : Circuit N zs) × (pos 0 <ℤ ticks_of N zs) × Lowest K.closed.0 (map (leads_from N) zs)

turned : (N : Net) (c : List Step) → Circuit N c → pos 0 <ℤ ticks_of N c → (s : List Step) × Says N s
turned N [] C h = absurd (not_above h)
turned N (s ∷ c) C h =
    let k = cut N s c in
    let t = circuit_turned_lem N k.before (k.step ∷ k.behind) (subst (Circuit N) k.whole_is C) in
    let first : leads_from N k.step ≡ t.0.closed.0 = t.0.closed.1.1 in
    let low : AtLeast N (leads_from N k.step) ((k.step ∷ k.behind) ++ k.before) = (omega arith, at_least_join N (leads_from N k.step) k.behind k.before k.low_behind k.low_before) in (
      (k.step ∷ k.behind) ++ k.before,
      (
        t.0,
        subst (λ z. pos 0 <ℤ z) (ap (ticks_of N) k.whole_is ∙ sym t.1) h,
        at_least_all N t.0.closed.0 ((k.step ∷ k.behind) ++ k.before) (subst (λ z. AtLeast N z ((k.step ∷ k.behind) ++ k.before)) first low),
      ),
    )

pub told : (N : Net) → Sound N → (c : List Step) → Circuit N c → pos 0 <ℤ ticks_of N c → (s : List CircuitStep) × Told N s
told N S c C h =
    let t = turned N c C h in
    let zs = map (tell N) t.0 in
    let q : Says N (map step_of zs) = subst (Says N) (sym (steps_are N t.0)) t.1 in
    (zs, record { circuit = q.0; lengths = lengths_are N t.0; above = q.1; lowest = q.2; none = circuit_forbids_lem N S (map step_of zs) q.0 q.1 })

pub timed : (N : Net) (c : Call) (L : Net) → Sound L → Passes N c no_timetable → After N c L → HasTimetable L
timed N c L S h a =
    elim (least_or_circuit_lem L S) [
      | inl (starts, l) ↦ (whole starts, l.fits, l.keeps)
      | inr (s, C, above) ↦ (let t = told L S s C above in absurd (h (around t.0) (L, t.0, a, t.1, refl)))
    ]
