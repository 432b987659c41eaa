-- How a board's answer comes to be the ledger's. Assumes nothing.
use Rattle.std.proofs.Common.{◌≡◌, ℕ, ◌<◌, ◌≤◌, List, [], ◌∷◌, ◌++◌, length, take, drop, Some, Ok, Err, Result, sym, refl, ap, ◌∙◌, subst, arith}
use Rattle.std.proofs.lemmas.List.{length-take-le, take-append-drop}
use Rattle.rules.specs.Net.{Net, whole}
use Rattle.rules.specs.Rules.{HasTimetable, Least}
use Rattle.nets.specs.declared.CircuitStep.{CircuitStep}
use Rattle.drafts.specs.declared.stage.NetSizes.{NetSizes}
use Rattle.drafts.specs.declared.tables.Tables.{Tables}
use Rattle.drafts.specs.Checks.{WholeTables}
use Rattle.drafts.specs.Faults as drafts
use Rattle.texts.specs.NetText.{Text}
use Rattle.texts.specs.declared.fault.TextFault.{TextFault}
use Rattle.texts.specs.declared.fault.TextFault.TheVariants as texts
use Rattle.texts.specs.Outcomes.{entries_of}
use Rattle.ledger.specs.Calls.{Call as Request, Source, text, load, Place, nowhere, at, around, Answer, refused, done}
use Rattle.ledger.specs.States.{Gives, After}
use Rattle.ledger.specs.Checks as checks
use Rattle.ledger.specs.Checks.{list_of, own_checks, with_list, order, number_of}
use Rattle.ledger.specs.Runs.{Value, AllPass, FirstFails, Answered, list_after}
use Rattle.ledger.proofs.Basics.{not_done}
use Rattle.ledger.proofs.Reading.{text_pass}
use Rattle.ledger.proofs.Outcomes.{short_behind, unfit_behind, untimed_behind, settled_behind}
use Rattle.offers.specs.declared.refusal.Refusal.{Refusal}
use Rattle.offers.specs.declared.refusal.Refusal.TheVariants.{ShortList, Draft, Call, CutOff, NoRates, NoTimetable, NoPace}
use Rattle.offers.proofs.Laying.{faulty, cut, rateless, fit}
use Rattle.boards.specs.declared.board.Board.{Board}
use Rattle.boards.specs.Settling.{net_of, starts_of, Settled}
use Rattle.boards.specs.Loading.{Loaded}
use Rattle.boards.specs.declared.text.LoadFault.{LoadFault}
use Rattle.boards.specs.declared.text.LoadFault.TheVariants as loads
use Rattle.boards.specs.TextLoading.{LoadedText}
use Rattle.boards.specs.Answering.{refusal_answer, change_answer, misread_answer, text_answer, Changed}
use Rattle.boards.proofs.Misread.{misread}

-- a least timetable is one
pub timed : (N : Net) (starts : List ℕ) → Least N starts → HasTimetable N
timed N starts l = (whole starts, l.fits, l.keeps)

-- A call that was checked for some things before its list
module _ (b b' : Board) (c : Request) (list list' : List CircuitStep) (same : length list' ≡ length list) (front : List checks.Refusal)
    (handed : list_of c ≡ Some (length list)) (ordered : order c ≡ front ++ with_list (own_checks c)) (ready : AllPass (net_of b) c front) (done_is : Value (net_of b) c done) where
  -- nothing is changed, and no circuit is told
  unchanged : (r : Refusal) (a : Answer) → refusal_answer r list' ≡ a → list_after a list ≡ list → Answered (net_of b) c a (net_of b) → b' ≡ b → list' ≡ list → Changed b c list (refusal_answer r list') b' list'
  unchanged r a e plain h p q = record {
    answered = subst (λ z. Answered (net_of b) c (refusal_answer r list') (net_of z)) (sym p) (subst (λ z. Answered (net_of b) c z (net_of b)) (sym e) h);
    written = q ∙ sym (ap (λ z. list_after z list) e ∙ plain);
    kept = λ n q e. p;
  }

  pub short_changed : length list < 64 → (n : ℕ) → n ≡ length list → b' ≡ b → list' ≡ list → Changed b c list (refusal_answer (ShortList n) list') b' list'
  short_changed h n e p q =
      unchanged (ShortList n) (refused 6 (at (length list))) (ap (λ z. refused 6 (at z)) e) refl (short_behind (net_of b) c (length list) handed front ordered ready h) p q

  module _ (long : 64 ≤ length list) where
    pub unfit_changed : (r : Refusal) (check : checks.Refusal) (place : Place) → FirstFails (net_of b) c (own_checks c) check place → refusal_answer r list' ≡ refused (number_of check) place →
        list_after (refused (number_of check) place) list ≡ list → b' ≡ b → list' ≡ list → Changed b c list (refusal_answer r list') b' list'
    unfit_changed r check place f e plain p q =
        unchanged r (refused (number_of check) place) e plain (unfit_behind (net_of b) c (length list) handed front ordered ready long check place f) p q

    module _ (P : AllPass (net_of b) c (own_checks c)) (N : Net) (A : After (net_of b) c N) where
      pub settled_changed : (r : Result (Unit {0}) Refusal) → Settled N b list r b' list' → Changed b c list (change_answer r list') b' list'
      settled_changed (Ok u) (e, L, q) = record {
        answered = subst (Answered (net_of b) c done) (sym e) (settled_behind (net_of b) c (length list) handed front ordered ready long P N A (timed N (starts_of b') L) done done_is);
        written = q;
        kept = λ n q e. absurd (not_done (sym e));
      }
      settled_changed (Err (NoTimetable n)) (W, p) =
          let k : length (take n list') ≡ n = length-take-le n list' (omega (arith, W.few)) in
          record {
            answered = subst (λ z. Answered (net_of b) c (refused 20 (around (take n list'))) (net_of z)) (sym p)
                (untimed_behind (net_of b) c (length list) handed front ordered ready long P N A (take n list') W.told);
            written = sym (take-append-drop n list') ∙ ap (λ z. take n list' ++ z) (W.rest ∙ ap (λ m. drop m list) (sym k));
            kept = λ n q e. p;
          }
      settled_changed (Err (ShortList n)) h = absurd h
      settled_changed (Err (Draft f)) h = absurd h
      settled_changed (Err (Call f)) h = absurd h
      settled_changed (Err (CutOff y)) h = absurd h
      settled_changed (Err NoRates) h = absurd h
      settled_changed (Err NoPace) h = absurd h

-- A load of a draft whose entries the source gives
module _ (s : NetSizes) (t : Tables) (W : WholeTables t) (b b' : Board) (src : Source) (list list' : List CircuitStep) (same : length list' ≡ length list)
    (G : Gives src (entries_of s t)) (front : List checks.Refusal) (ordered : order (load src (length list)) ≡ front ++ with_list (own_checks (load src (length list))))
    (ready : AllPass (net_of b) (load src (length list)) front) where
  abbrev loading : Request
  loading = load src (length list)

  abbrev L : Net
  L = net_of b

  unfit : 64 ≤ length list → (r : Refusal) (check : checks.Refusal) (place : Place) → FirstFails L loading (own_checks loading) check place → refusal_answer r list' ≡ refused (number_of check) place →
      list_after (refused (number_of check) place) list ≡ list → b' ≡ b → list' ≡ list → Changed b loading list (refusal_answer r list') b' list'
  unfit = unfit_changed b b' loading list list' same front refl ordered ready refl

  pub loaded_changed : (r : Result (Unit {0}) Refusal) → Loaded s t b list r b' list' → Changed b loading list (change_answer r list') b' list'
  loaded_changed (Ok u) (long, O, least, q) =
      let F = fit s t W L src (length list) G O.checked (net_of b') O in
      settled_changed b b' loading list list' same front refl ordered ready refl long F.0 (net_of b') F.1 (Ok u) (refl, least, q)
  loaded_changed (Err (ShortList n)) (h, e, (p, q)) = short_changed b b' loading list list' same front refl ordered ready refl h n e p q
  loaded_changed (Err (Draft f)) (long, e, (p, q)) =
      let F = faulty s t W L src (length list) G f e in
      unfit long (Draft f) F.0 (at (drafts.told_of f).1) F.1 (ap (λ z. refused z (at (drafts.told_of f).1)) (sym F.2)) refl p q
  loaded_changed (Err (CutOff y)) (long, (e, C), (p, q)) = unfit long (CutOff y) checks.cut_off (at y) (cut s t W L src (length list) G e y C) refl refl p q
  loaded_changed (Err NoRates) (long, (e, joined, none), (p, q)) = unfit long NoRates checks.no_rates nowhere (rateless s t W L src (length list) G e joined none) refl refl p q
  loaded_changed (Err (NoTimetable n)) (long, (N, O, Wr), p) =
      let F = fit s t W L src (length list) G O.checked N O in
      settled_changed b b' loading list list' same front refl ordered ready refl long F.0 N F.1 (Err (NoTimetable n)) (Wr, p)
  loaded_changed (Err NoPace) h = absurd h
  loaded_changed (Err (Call f)) h = absurd h

-- A load of a text
module _ (t : List ℕ) (b b' : Board) (list list' : List CircuitStep) (same : length list' ≡ length list) where
  abbrev reading : Request
  reading = load (text t) (length list)

  by_entries : (s : NetSizes) (tables : Tables) → WholeTables tables → Text t (entries_of s tables) → (r : Result (Unit {0}) Refusal) → Loaded s tables b list r b' list' → Changed b reading list (change_answer r list') b' list'
  by_entries s tables W T = loaded_changed s tables W b b' (text t) list list' same T (checks.unformed ∷ checks.out_in_text ∷ checks.full_in_text ∷ []) refl (text_pass (net_of b) t (length list) (entries_of s tables) T)

  no_circuit : (f : TextFault) → list_after (misread_answer f) list ≡ list
  no_circuit (texts.Form w) = refl
  no_circuit (texts.Draft f w) = refl

  pub text_changed : (r : Result (Unit {0}) LoadFault) → LoadedText t b list r b' list' → Changed b reading list (text_answer r list') b' list'
  text_changed (Ok u) L = by_entries L.sizes L.tables L.whole L.spelt (Ok u) L.loads
  text_changed (Err (loads.Board r)) L = by_entries L.sizes L.tables L.whole L.spelt (Err r) L.loads
  text_changed (Err (loads.Text f)) (R, w, (p, q)) = record {
    answered = subst (λ z. Answered (net_of b) reading (misread_answer f) (net_of z)) (sym p) (misread (net_of b) t (length list) f R);
    written = q ∙ sym (no_circuit f);
    kept = λ n p' e. p;
  }
