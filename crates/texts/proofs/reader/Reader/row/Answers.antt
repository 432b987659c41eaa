use Rattle.std.proofs.Common.{◌≡◌, ℕ, List, [], ◌∷◌, ◌++◌, length, take, set, Some, None, sym, ap, ◌∙◌, subst, ⊎_elim, arith}
use Rattle.std.proofs.lemmas.Result.{err_from_is_err_and}
use Rattle.std.proofs.lemmas.List.{length-take-le}
use Rattle.forms.specs.Lines.{rows}
use Rattle.texts.specs.Faults.{Worded}
use Rattle.texts.specs.NetForm.{NetForm}
use Rattle.texts.specs.Reading.{Halts}
use Rattle.texts.proofs.Chains.{and_on, and_halt}
use Rattle.texts.proofs.Taken.{row_left, row_taken, row_halted, made_ok, made_err, column_front, column_behind, column_long, took}
use Rattle.texts.proofs.reader.Reader.row.Goals as goal

-- the other entries, when this one is read
abbrev next : {X : Type 0} → (ℕ → (X → NetForm) → NetForm) → ℕ → List X → (List X → NetForm) → X → NetForm
next form n before k e = rows form n (before ++ e ∷ []) k

pub returns-in_err-mark-clause-reads : goal.returns-in_err-mark-clause-reads
returns-in_err-mark-clause-reads g c =
    let r = c.from_residual.result in
    let form = g.E.Row.form c.args.stations in
    let before = take c.args.stage.now.held (g.E.Entry.column c.args.tables.now) in
    row_left form c.args.self.now before r c.mark.new.self _ _ (err_from_is_err_and r c.from_residual.ensures.1) (λ n k. c.in_err-mark.ensures (λ _. form (length before) (next form n before k)))

pub returns-in_err-entry-clause-reads : goal.returns-in_err-entry-clause-reads
returns-in_err-entry-clause-reads g c =
    let r = c.from_residual-in_err-entry.result in
    let form = g.E.Row.form c.args.stations in
    let before = take c.args.stage.now.held (g.E.Entry.column c.args.tables.now) in
    let i = length before in
    row_left form c.args.self.now before r c.read.new.reader _ _ (err_from_is_err_and r c.from_residual-in_err-entry.ensures.1)
    (λ n k. and_halt (c.in_ok-mark.ensures (λ _. form i (next form n before k))) (c.in_err-entry.ensures.fits i (next form n before k)))

pub returns : goal.returns
returns g c =
    let s = c.args.stage.now in
    let t = c.args.tables.now in
    let x = c.args.self.now in
    let r = c.placed.result in
    let d = c.in_ok-entry.entry in
    let q = c.in_ok-entry.ensures in
    let form = g.E.Row.form c.args.stations in
    let xs = g.E.Entry.column t in
    let before = take s.held xs in
    let i = length before in
    let here : s.held ≡ i = sym (length-take-le s.held xs (omega (arith, c.requires.wide))) in
    ⊎_elim
    (λ took.
    let stored = took.2.2 in
    let column : g.E.Entry.column c.take.new.tables ≡ set xs s.held d = ap g.E.Entry.column stored ∙ g.met.E.Entry.apart.got t (set xs s.held d) in
    let fits : g.E.Entry.place_fault i d ≡ None = subst (λ n. g.E.Entry.place_fault n d ≡ None) here took.1 in
    record {
      reads = row_taken form x before r c.read.new.reader _ d took.0 (column_front xs _ s.held _ d took.2.1 column c.requires.wide)
          (λ n k. and_on (c.in_ok-mark.ensures (λ _. form i (next form n before k))) (q.fits i (next form n before k) fits));
      kept = made_ok r tt _ took.0
          (took.2.1, took.2.0, stored ∙ ap (g.E.Entry.with_column t) (sym column), column_behind xs _ s.held _ d took.2.1 column, column_long xs _ s.held _ d took.2.1 column);
    })
    (λ took.
    let f = took.0 in
    let e = took.1 in
    let at_place : g.E.Entry.place_fault i d ≡ Some f = subst (λ n. g.E.Entry.place_fault n d ≡ Some f) here took.3 in
    let halts : (k : g.row.E.Denot → NetForm) → Halts c.mark.new.self (form i k) e = λ k. record {
      runs = q.refuses i k f at_place ∙ sym took.4;
      worded = subst (λ b. Worded b e) q.same took.5;
    } in
    record {
      reads = row_halted form x before r c.read.new.reader _ e took.2 (λ n k. and_halt (c.in_ok-mark.ensures (λ _. form i (next form n before k))) (halts (next form n before k)));
      kept = made_err r e _ took.2;
    })
    (took (g.E.Entry.count s.sizes) s.held (g.E.Entry.fault s.sizes.stations d) (g.E.Entry.place_fault s.held d) c.take.result r _ _ _ c.take.ensures.told c.take.ensures.taken c.placed.ensures c.requires.space
    (ap (λ m. g.E.Entry.fault m d) c.requires.stations ∙ q.fine))
