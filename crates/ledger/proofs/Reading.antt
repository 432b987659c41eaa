-- A text gives at most one list of entries, and then has none of its faults. Assumes nothing.
use Rattle.std.proofs.Common.{◌≡◌, ℕ, List, [], ◌∷◌, sym, refl, ◌∙◌, subst, arith}
use Rattle.handover.proofs.Options.{some_same}
use Rattle.rules.specs.Net.{Net}
use Rattle.drafts.specs.declared.fault.DraftFault.{DraftFault}
use Rattle.drafts.specs.declared.fault.DraftFault.TheVariants.{Range, Capacity}
use Rattle.forms.specs.Form.{Outcome, got, broken, refused, run}
use Rattle.forms.proofs.Exact.{reads_as, refuses_at, breaks_at}
use Rattle.texts.specs.NetText.{Entries, Whole, pieces, Text, Refused, Broken}
use Rattle.texts.specs.NetForm.{net_form}
use Rattle.texts.proofs.NetTexts.{net_describes}
use Rattle.ledger.specs.Calls.{Source, entries, text, Call, load, open_link, put, close, ask}
use Rattle.ledger.specs.States.{Gives}
use Rattle.ledger.specs.Checks.{unformed, out_in_text, full_in_text, Loads}
use Rattle.ledger.specs.Runs.{Passes, AllPass}

-- an outcome is of one kind
got_one : (e d : Entries) → ◌≡◌ {A = Outcome DraftFault Entries} (got e) (got d) → e ≡ d
got_one e d h = cc

got_broken : (e : Entries) (o : ℕ) → ◌≡◌ {A = Outcome DraftFault Entries} (got e) (broken o) → ⊥
got_broken e o h = let z : ◌≡◌ {A = ℕ} 0 1 = cc in omega arith

got_refused : (e : Entries) (f : DraftFault) (o : ℕ) → ◌≡◌ {A = Outcome DraftFault Entries} (got e) (refused f o) → ⊥
got_refused e f o h = let z : ◌≡◌ {A = ℕ} 0 1 = cc in omega arith

refused_broken : (f : DraftFault) (o q : ℕ) → ◌≡◌ {A = Outcome DraftFault Entries} (refused f o) (broken q) → ⊥
refused_broken f o q h = let z : ◌≡◌ {A = ℕ} 0 1 = cc in omega arith

refused_one : (f g : DraftFault) (o q : ℕ) → ◌≡◌ {A = Outcome DraftFault Entries} (refused f o) (refused g q) → (f ≡ g) × (o ≡ q)
refused_one f g o q h = (cc, cc)

broken_one : (o q : ℕ) → ◌≡◌ {A = Outcome DraftFault Entries} (broken o) (broken q) → o ≡ q
broken_one o q h = cc

pub range_capacity : (w k : ℕ) → Range w ≡ Capacity k → ⊥
range_capacity w k h = let z : ◌≡◌ {A = ℕ} 0 1 = cc in omega arith

-- what a reader finds of the text
module _ (t : List ℕ) where
  abbrev found : Outcome DraftFault Entries
  found = run 0 net_form t

  reads : (e : Entries) → Text t e → found ≡ got e
  reads e h = reads_as net_form Whole pieces net_describes t found refl e h

  refuses : (f : DraftFault) (o : ℕ) → Refused t f o → found ≡ refused f o
  refuses f o h = refuses_at net_form Whole pieces net_describes t found refl f o h

  breaks : (o : ℕ) → Broken t o → found ≡ broken o
  breaks o h = breaks_at net_form Whole pieces net_describes t found refl o h

  pub text_one : (e d : Entries) → Text t e → Text t d → e ≡ d
  text_one e d h k = got_one e d (sym (reads e h) ∙ reads d k)

  pub text_whole : (e : Entries) (o : ℕ) → Text t e → Broken t o → ⊥
  text_whole e o h k = got_broken e o (sym (reads e h) ∙ breaks o k)

  pub text_fine : (e : Entries) (f : DraftFault) (o : ℕ) → Text t e → Refused t f o → ⊥
  text_fine e f o h k = got_refused e f o (sym (reads e h) ∙ refuses f o k)

  pub fault_whole : (f : DraftFault) (o q : ℕ) → Refused t f o → Broken t q → ⊥
  fault_whole f o q h k = refused_broken f o q (sym (refuses f o h) ∙ breaks q k)

  pub fault_one : (f g : DraftFault) (o q : ℕ) → Refused t f o → Refused t g q → (f ≡ g) × (o ≡ q)
  fault_one f g o q h k = refused_one f g o q (sym (refuses f o h) ∙ refuses g q k)

  pub break_one : (o q : ℕ) → Broken t o → Broken t q → o ≡ q
  break_one o q h k = broken_one o q (sym (breaks o h) ∙ breaks q k)

-- what a source gives, and what a call would load
pub gives_one : (s : Source) (e d : Entries) → Gives s e → Gives s d → e ≡ d
gives_one (entries x) e d h k = h ∙ sym k
gives_one (text t) e d h k = text_one t e d h k

pub loads_one : (c : Call) (e d : Entries) → Loads c e → Loads c d → e ≡ d
loads_one (load s n) e d h k = gives_one s e d h k
loads_one (open_link i l n) e d h k = absurd h
loads_one (put s n) e d h k = absurd h
loads_one (close i) e d h k = absurd h
loads_one (ask q) e d h k = absurd h

-- the checks of a text
module _ (N : Net) (t : List ℕ) (n : ℕ) where
  abbrev call : Call
  call = load (text t) n

  pub form_pass : ((o : ℕ) → Broken t o → ⊥) → Passes N call unformed
  form_pass h p (u, o, e, b, g) = h o (subst (λ z. Broken z o) (sym (some_same t u e)) b)

  pub numbers_pass : ((w o : ℕ) → Refused t (Range w) o → ⊥) → Passes N call out_in_text
  numbers_pass h p (u, w, o, e, b, g) = h w o (subst (λ z. Refused z (Range w) o) (sym (some_same t u e)) b)

  pub rooms_pass : ((k o : ℕ) → Refused t (Capacity k) o → ⊥) → Passes N call full_in_text
  rooms_pass h p (u, k, o, e, b, g) = h k o (subst (λ z. Refused z (Capacity k) o) (sym (some_same t u e)) b)

  pub text_pass : (e : Entries) → Text t e → AllPass N call (unformed ∷ out_in_text ∷ full_in_text ∷ [])
  text_pass e h = (form_pass (λ o. text_whole t e o h), (numbers_pass (λ w o. text_fine t e (Range w) o h), (rooms_pass (λ k o. text_fine t e (Capacity k) o h), tt)))
