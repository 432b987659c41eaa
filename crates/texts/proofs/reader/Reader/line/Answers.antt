use Rattle.std.proofs.Common.{◌≡◌, ◌+◌, List, [], take, sym, refl, ap, ◌∙◌, arith}
use Rattle.std.proofs.lemmas.Result.{err_from_is_err_and, IfOk-from_err}
use Rattle.forms.specs.Form.{mark}
use Rattle.forms.specs.Lines.{rows, line}
use Rattle.forms.proofs.Parts.{rows_start}
use Rattle.texts.specs.NetForm.{NetForm}
use Rattle.texts.proofs.Chains.{and_on, and_halt, and_find, leave_filled, find_filled}
use Rattle.texts.proofs.Lines.{goes_none, row_on, row_halt, row_behind, row_last, made_any}
use Rattle.texts.proofs.reader.Reader.line.Goals as goal

abbrev last : {X : Type 0} → (List X → NetForm) → List X → NetForm
last k xs = mark 10 (k xs)

pub returns-in_err-name : goal.returns-in_err-name
returns-in_err-name g c =
    let r = c.from_residual.result in
    let form = g.E.Row.form c.args.sizes.stations in
    record {
      reads = λ k. leave_filled r _ _ k c.name.new.self (err_from_is_err_and r c.from_residual.ensures.1) (c.in_err-name.ensures (λ _. rows form (g.E.Entry.count c.args.sizes) [] (last k)));
      kept = IfOk-from_err r _ c.from_residual.ensures.0;
    }

pub loop-init : goal.loop-init
loop-init g c =
    let form = g.E.Row.form c.args.sizes.stations in
    (c.requires.none, refl, sym (g.met.E.Entry.apart.own c.args.tables.now), refl, refl, λ k. goes_none (rows_start form k (g.E.Entry.count c.args.sizes) []))

pub row-requires : goal.row-requires
row-requires g c =
    let sizes = c.loop.invariant.1 ∙ c.requires.sizes in
    record {
      stations = ap (λ s. s.stations) sizes;
      space =
          let n : g.E.Entry.count c.loop.stage.sizes ≡ g.E.Entry.count c.args.sizes = ap g.E.Entry.count sizes in
          omega (arith, n, c.loop.invariant.0, c.loop-test.true);
      wide = omega (arith, c.loop.invariant.0, c.loop.invariant.4, c.requires.wide, c.loop-test.true);
    }

pub returns-in_err-row : goal.returns-in_err-row
returns-in_err-row g c =
    let r = c.from_residual-in_err-row.result in
    let form = g.E.Row.form c.args.sizes.stations in
    let xs = g.E.Entry.column c.loop.tables in
    record {
      reads = λ k. leave_filled r _ _ k c.row.new.self (err_from_is_err_and r c.from_residual-in_err-row.ensures.1)
          (and_halt (c.in_ok-name.ensures (λ _. rows form (g.E.Entry.count c.args.sizes) [] (last k))) (and_halt (c.loop.invariant.5 (last k))
          (row_halt form xs _ c.loop.counter (g.E.Entry.count c.args.sizes) c.loop.invariant.0 (omega (arith, c.loop-test.true, c.count-end.ensures)) (last k) c.loop.self c.row.new.self [] _ c.in_err-row.ensures.reads)));
      kept = IfOk-from_err r _ c.from_residual-in_err-row.ensures.0;
    }

pub loop-preserved : goal.loop-preserved
loop-preserved g c =
    let form = g.E.Row.form c.args.sizes.stations in
    let xs = g.E.Entry.column c.loop.tables in
    let ys = g.E.Entry.column c.row.new.tables in
    let kept = c.in_ok-row.ensures.kept in
    let held : c.row.new.stage.held ≡ c.loop.counter + 1 = kept.0 ∙ ap (λ n. n + 1) c.loop.invariant.0 in (
      held,
      kept.1 ∙ c.loop.invariant.1,
      kept.2 ∙ ap (λ t. g.E.Entry.with_column t ys) c.loop.invariant.2 ∙ g.met.E.Entry.apart.last c.args.tables.now xs ys,
      row_behind xs ys _ (g.E.Entry.count c.args.sizes) (omega (arith, held, c.loop-test.true)) kept.3 ∙ c.loop.invariant.3,
      kept.4 ∙ c.loop.invariant.4,
      λ k. and_on (c.loop.invariant.5 k)
          (row_on form xs _ c.loop.counter (g.E.Entry.count c.args.sizes) c.loop.invariant.0 (omega (arith, c.loop-test.true, c.count-end.ensures)) k c.loop.self c.row.new.self ys _ kept.0 c.in_ok-row.ensures.reads),
    )

pub returns : goal.returns
returns g c =
    let form = g.E.Row.form c.args.sizes.stations in
    let xs = g.E.Entry.column c.loop.tables in
    let n = g.E.Entry.count c.args.sizes in
    let all : c.loop.counter ≡ n = omega (arith, c.loop-test.false, c.loop.auto.counter-end) in
    record {
      reads = λ k. find_filled c.args.self.now (line c.args.name.now form n k) c.mark.result (take n xs) k c.mark.new.self
          (and_find (and_on (c.in_ok-name.ensures (λ _. rows form n [] (last k))) (and_on (c.loop.invariant.5 (last k)) (goes_none (row_last form xs c.loop.counter n all (last k)))))
          c.mark.result (λ _. k (take n xs)) c.mark.new.self (c.mark.ensures (λ _. k (take n xs))));
      kept = made_any c.mark.result _ (λ _. (c.loop.invariant.0 ∙ all, c.loop.invariant.1 ∙ c.requires.sizes, c.loop.invariant.2, c.loop.invariant.3));
    }
