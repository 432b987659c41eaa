-- What is reported of a load. Assumes nothing.
use Rattle.std.proofs.Common.{◌≡◌, ℕ, ◌^◌, ◌<◌, ◌≤◌, List, map, All, length, get_or, take, drop, pos, nat_abs, IfOk, Some, Ok, Err, Result, refl, sym, ap, ◌∙◌, subst, arith, length-append, length-drop}
use Rattle.std.proofs.lemmas.List.{length-map, length-take-le, get_or-map}
use Rattle.rules.specs.Net.{Net, Sound, stations}
use Rattle.rules.specs.Ranges.{InRange}
use Rattle.rules.specs.Steps.{forward, Has, ticks}
use Rattle.rules.proofs.Chains.{chain_has}
use Rattle.rules.proofs.Tested.{open_below}
use Rattle.rules.proofs.Sizes.{steps_sized_lem}
use Rattle.nets.specs.declared.Step as program
use Rattle.nets.specs.declared.Step.TheVariants.{Forward, Back, Own}
use Rattle.nets.specs.declared.CircuitStep.{CircuitStep}
use Rattle.nets.specs.declared.Notice.{Notice}
use Rattle.nets.specs.Views.{of_step, step_of}
use Rattle.timing.specs.Timing.{Told}
use Rattle.texts.specs.declared.fault.TextFault.{TextFault}
use Rattle.texts.specs.declared.fault.TextFault.TheVariants as texts
use Rattle.texts.specs.Faults as texts_faults
use Rattle.texts.specs.NetText.{Right}
use Rattle.reports.specs.declared.report.ShortBuffer.{ShortBuffer}
use Rattle.reports.specs.Bytes.{timetable_bytes, circuit_bytes, refusal_bytes}
use Rattle.nets.specs.Views.{step_number}
use Rattle.reports.specs.Reported.{Reported}
use Rattle.boards.specs.declared.board.Board.{Board}
use Rattle.offers.specs.declared.refusal.Refusal.{Refusal}
use Rattle.offers.specs.declared.refusal.Refusal.TheVariants.{ShortList, Draft, Call, CutOff, NoRates, NoTimetable, NoPace}
use Rattle.boards.specs.Settling.{net_of, starts_of}
use Rattle.boards.specs.Showing.{periods_of}
use Rattle.nets.proofs.Alone.{good}
use Rattle.boards.specs.declared.text.LoadFault.{LoadFault}
use Rattle.boards.specs.declared.text.LoadFault.TheVariants as faults
use Rattle.boards.specs.TextLoading.{LoadedText}
use Rattle.offers.specs.Refusals.{told_of}
use Rattle.plans.specs.Planning.{Reports, unformed, misnumbered, unoffered, timed, untimed, Planned}

-- a report ends within its buffer
ends_within : (bytes out out' : List ℕ) (r : Result ℕ ShortBuffer) → length out' ≡ length out → Reported bytes out out' r → IfOk r (λ n. n ≤ length out)
ends_within bytes out out' (Ok n) same (room, e, q) = omega (arith, same, e, ap length q, length-append bytes (drop n out), length-drop n out)
ends_within bytes out out' (Err short) same w = tt

-- The steps of a circuit that is told have numbers below 128, and lengths of at most 17 digits

numbered : (N : Net) → InRange N → (s : program.Step) → Has N (of_step s) → step_number s < 128
numbered N R (Forward k) (l, o) = omega (arith, open_below N k l o, R.numbers)
numbered N R (Back k) (l, c, o, e) = omega (arith, open_below N k l o, R.numbers)
numbered N R (Own i) h = omega (arith, R.few)

module _ (N : Net) (S : Sound N) (R : InRange N) (cs : List CircuitStep) (T : Told N cs) where
  has : All (λ s. Has N (of_step s.step)) cs
  has i d h =
      let closed = T.circuit.closed in
      subst (Has N) (get_or-map step_of cs i d (forward 0) h)
      (chain_has N (map step_of cs) closed.0 closed.0 closed.1 i (omega (arith, h, length-map cs step_of)))

  lasts : All (λ s. s.length ≡ ticks N (of_step s.step)) cs
  lasts i d h =
      sym (get_or-map (λ s. s.length) cs i d (pos 0) h)
      ∙ ap (λ zs. get_or zs i (pos 0)) T.lengths
      ∙ get_or-map (ticks N) (map step_of cs) i (forward 0) (pos 0) (omega (arith, h, length-map cs step_of))
      ∙ ap (ticks N) (get_or-map step_of cs i d (forward 0) h)

  pub told_numbered : All (λ s. step_number s.step < 128) cs
  told_numbered i d h = numbered N R (get_or cs i d).step (has i d h)

  pub told_sized : All (λ s. nat_abs s.length < 10 ^ 17) cs
  told_sized i d h = let z = steps_sized_lem N S R (of_step (get_or cs i d).step) (has i d h) in omega (arith, z.ticks, ap nat_abs (lasts i d h))

-- The bytes of a notice, the notice of a text's fault, and the bytes of a refusal.
abbrev notice_bytes : Notice → List ℕ
notice_bytes m = refusal_bytes m.number m.place

abbrev pub text_notice : TextFault → Notice
text_notice f = record { number = (texts_faults.told_of f).0; place = Some (texts_faults.told_of f).1 }

abbrev pub refused_bytes : Refusal → List ℕ
refused_bytes q = refusal_bytes (told_of q).0 (told_of q).1

-- A text at fault

at_fault : (text : List ℕ) (f : TextFault) → Right text (texts_faults.said f) → Reports text (refusal_bytes (texts_faults.told_of f).0 (Some (texts_faults.told_of f).1))
at_fault text (texts.Form w) r = unformed w.at r
at_fault text (texts.Draft f w) r = misnumbered f w.at r

text_planned : (text out out' : List ℕ) (r : Result ℕ ShortBuffer) (f : TextFault) (told : Notice) → told ≡ text_notice f → Right text (texts_faults.said f) → Reported (notice_bytes told) out out' r → Planned text out out' r
text_planned text out out' r f told e h w =
    record {
      bytes = refusal_bytes (texts_faults.told_of f).0 (Some (texts_faults.told_of f).1);
      reports = at_fault text f h;
      written = subst (λ z. Reported (notice_bytes z) out out' r) e w;
    }

-- A load that is done

module _ (text : List ℕ) (b b' : Board) (list list' : List CircuitStep) (long : length list ≡ 64) (long' : length list' ≡ 64) (r : Result (Unit {0}) LoadFault) (L : LoadedText text b list r b' list') where
  as_told : (q : Result (Unit {0}) LoadFault) → r ≡ q → LoadedText text b list q b' list'
  as_told q e = subst (λ z. LoadedText text b list z b' list') e L

  pub shown : (out out' : List ℕ) (a : Result ℕ ShortBuffer) (u : Unit {0}) → r ≡ Ok u →
      Reported (timetable_bytes b'.timed.net.net.stations (starts_of b') (periods_of (net_of b'))) out out' a → Planned text out out' a
  shown out out' a u e w =
      let K = as_told (Ok u) e in
      let G = good b'.timed.net.net b'.timed.net.good in
      let n : stations (net_of b') ≡ b'.timed.net.net.stations = length-take-le b'.timed.net.net.stations b'.timed.net.net.durations (omega (arith, G.whole.few, G.whole.long)) in
      record {
        bytes = timetable_bytes (stations (net_of b')) (starts_of b') (periods_of (net_of b'));
        reports = timed K.sizes K.tables (net_of b') (starts_of b') K.spelt K.loads.1 K.loads.2;
        written = subst (λ k. Reported (timetable_bytes k (starts_of b') (periods_of (net_of b'))) out out' a) (sym n) w;
      }

  pub text_told : (out out' : List ℕ) (a : Result ℕ ShortBuffer) (f : TextFault) (told : Notice) → r ≡ Err (faults.Text f) → told ≡ text_notice f → Reported (notice_bytes told) out out' a → Planned text out out' a
  text_told out out' a f told e t w = text_planned text out out' a f told t (as_told (Err (faults.Text f)) e).0 w

  reported : (q : Refusal) → ((n : ℕ) → q ≡ NoTimetable n → ⊥) → LoadedText text b list (Err (faults.Board q)) b' list' → Reports text (refusal_bytes (told_of q).0 (told_of q).1)
  reported (ShortList n) other K = absurd (omega (arith, K.loads.0))
  reported (Draft f) other K = unoffered K.sizes K.tables (Draft f) K.spelt K.loads.1
  reported (Call f) other K = absurd K.loads
  reported (CutOff y) other K = unoffered K.sizes K.tables (CutOff y) K.spelt K.loads.1
  reported NoRates other K = unoffered K.sizes K.tables NoRates K.spelt K.loads.1
  reported (NoTimetable n) other K = absurd (other n refl)
  reported NoPace other K = absurd K.loads

  pub refusal_told : (out out' : List ℕ) (a : Result ℕ ShortBuffer) (q : Refusal) → r ≡ Err (faults.Board q) → ((n : ℕ) → q ≡ NoTimetable n → ⊥) → Reported (refused_bytes q) out out' a → Planned text out out' a
  refusal_told out out' a q e other w = record {
    bytes = refused_bytes q;
    reports = reported q other (as_told (Err (faults.Board q)) e);
    written = w;
  }

  -- a circuit stands at the front of the list
  module _ (q : Refusal) (n : ℕ) (e : r ≡ Err (faults.Board q)) (k : q ≡ NoTimetable n) where
    abbrev front : List CircuitStep
    front = take n list'

    untimely : LoadedText text b list (Err (faults.Board (NoTimetable n))) b' list'
    untimely = as_told (Err (faults.Board (NoTimetable n))) (e ∙ ap (λ z. Err (faults.Board z)) k)

    pub front_few : n ≤ 64
    front_few = let (N, O, W) = untimely.loads.1 in W.few

    pub front_numbered : All (λ s. step_number s.step < 128) front
    front_numbered = let (N, O, W) = untimely.loads.1 in told_numbered N O.sound O.range front W.told

    pub front_sized : All (λ s. nat_abs s.length < 10 ^ 17) front
    front_sized = let (N, O, W) = untimely.loads.1 in told_sized N O.sound O.range front W.told

    pub circuit_told : (out out' : List ℕ) (a : Result ℕ ShortBuffer) → Reported (circuit_bytes front) out out' a → Planned text out out' a
    circuit_told out out' a w =
        let (N, O, W) = untimely.loads.1 in
        record { bytes = circuit_bytes front; reports = untimed untimely.sizes untimely.tables N front untimely.spelt O W.told; written = w }

pub planned_within : (text out out' : List ℕ) (r : Result ℕ ShortBuffer) → length out' ≡ length out → Planned text out out' r → IfOk r (λ n. n ≤ length out)
planned_within text out out' r same P = ends_within P.bytes out out' r same P.written
