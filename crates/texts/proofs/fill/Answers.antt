use Rattle.std.proofs.Common.{◌≡◌, take, ◌∙◌}
use Rattle.std.proofs.lemmas.Result.{err_from_is_err_and}
use Rattle.texts.specs.NetForm.{net_form, after_sizes, after_durations, after_ends, after_terms}
use Rattle.texts.proofs.Chains.{and_on, and_halt, moved_on}
use Rattle.texts.proofs.Fills.{fills_err, fills_ok}
use Rattle.texts.proofs.fill.Goals as goal

pub returns-in_err-counts : goal.returns-in_err-counts
unfolding net_form
returns-in_err-counts c =
    let r = c.from_residual.result in
    fills_err c.new-reader.result c.args.text.now c.new-reader.ensures _ r _ (err_from_is_err_and r c.from_residual.ensures.1)
    (c.in_err-counts.ensures.reads after_sizes)

pub returns-in_err-line : goal.returns-in_err-line
unfolding net_form
returns-in_err-line c =
    let r = c.from_residual-in_err-line.result in
    fills_err c.new-reader.result c.args.text.now c.new-reader.ensures _ r _ (err_from_is_err_and r c.from_residual-in_err-line.ensures.1)
    (and_halt (c.in_ok-counts.ensures.reads after_sizes) (c.in_err-line.ensures.reads (after_durations c.in_ok-counts.counts)))

pub returns-in_err-line-2 : goal.returns-in_err-line-2
unfolding net_form
returns-in_err-line-2 c =
    let r = c.from_residual-in_err-line-2.result in
    fills_err c.new-reader.result c.args.text.now c.new-reader.ensures _ r _ (err_from_is_err_and r c.from_residual-in_err-line-2.ensures.1)
    (and_halt (c.in_ok-counts.ensures.reads after_sizes) (and_halt (c.in_ok-line.ensures.reads (after_durations c.in_ok-counts.counts)) (c.in_err-line-2.ensures.reads (after_ends c.in_ok-counts.counts (take c.in_ok-counts.counts.stations c.line.new.tables.durations)))))

pub returns-in_err-line-3 : goal.returns-in_err-line-3
unfolding net_form
returns-in_err-line-3 c =
    let r = c.from_residual-in_err-line-3.result in
    fills_err c.new-reader.result c.args.text.now c.new-reader.ensures _ r _ (err_from_is_err_and r c.from_residual-in_err-line-3.ensures.1)
    (and_halt (c.in_ok-counts.ensures.reads after_sizes) (and_halt (c.in_ok-line.ensures.reads (after_durations c.in_ok-counts.counts)) (and_halt (c.in_ok-line-2.ensures.reads (after_ends c.in_ok-counts.counts (take c.in_ok-counts.counts.stations c.line.new.tables.durations))) (c.in_err-line-3.ensures.reads (after_terms c.in_ok-counts.counts (take c.in_ok-counts.counts.stations c.line.new.tables.durations) (take c.in_ok-counts.counts.links c.line-2.new.tables.ends))))))

pub returns-in_err-end : goal.returns-in_err-end
unfolding net_form
returns-in_err-end c =
    let r = c.from_residual-in_err-end.result in
    fills_err c.new-reader.result c.args.text.now c.new-reader.ensures _ r _ (err_from_is_err_and r c.from_residual-in_err-end.ensures.1)
    (and_halt (c.in_ok-counts.ensures.reads after_sizes) (and_halt (c.in_ok-line.ensures.reads (after_durations c.in_ok-counts.counts)) (and_halt (c.in_ok-line-2.ensures.reads (after_ends c.in_ok-counts.counts (take c.in_ok-counts.counts.stations c.line.new.tables.durations))) (and_halt (c.in_ok-line-3.ensures.reads (after_terms c.in_ok-counts.counts (take c.in_ok-counts.counts.stations c.line.new.tables.durations) (take c.in_ok-counts.counts.links c.line-2.new.tables.ends))) (c.in_err-end.ensures (record { sizes = c.in_ok-counts.counts; durations = take c.in_ok-counts.counts.stations c.line.new.tables.durations; ends = take c.in_ok-counts.counts.links c.line-2.new.tables.ends; terms = take c.in_ok-counts.counts.links c.line-3.new.tables.terms }))))))

pub returns : goal.returns
unfolding net_form
returns c =
    let s = c.in_ok-counts.counts in
    let k1 = c.in_ok-line.ensures.kept in
    let k2 = c.in_ok-line-2.ensures.kept in
    let k3 = c.in_ok-line-3.ensures.kept in
    let sizes : c.in_ok-filled.filled.sizes ≡ s = (moved_on _ _ _ _ _ c.in_ok-filled.ensures c.next-4.ensures.complete).1 ∙ k3.1 in
    fills_ok s c.args.tables.now c.line.new.tables c.line-2.new.tables c.line-3.new.tables c.requires k1.2 k2.2 k3.2 k1.3 k2.3 k3.3
    c.new-reader.result c.line-3.new.self c.args.text.now c.new-reader.ensures
    (and_on (c.in_ok-counts.ensures.reads after_sizes) (and_on (c.in_ok-line.ensures.reads (after_durations c.in_ok-counts.counts)) (and_on (c.in_ok-line-2.ensures.reads (after_ends c.in_ok-counts.counts (take c.in_ok-counts.counts.stations c.line.new.tables.durations))) (c.in_ok-line-3.ensures.reads (after_terms c.in_ok-counts.counts (take c.in_ok-counts.counts.stations c.line.new.tables.durations) (take c.in_ok-counts.counts.links c.line-2.new.tables.ends))))))
    c.in_ok-end.ensures c.in_ok-filled.filled sizes
