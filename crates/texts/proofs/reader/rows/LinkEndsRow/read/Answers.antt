use Rattle.std.proofs.Common.{ℕ, None, length, refl, ap, arith}
use Rattle.std.proofs.lemmas.Result.{err_from_is_err_and}
use Rattle.nets.specs.declared.LinkEnds.{LinkEnds}
use Rattle.drafts.specs.Faults.{station_fault}
use Rattle.drafts.specs.Entries.{ends_fault}
use Rattle.forms.specs.Form.{mark}
use Rattle.texts.specs.NetForm.{NetForm, asked, ends_entry, net_form}
use Rattle.texts.proofs.Chains.{and_on, and_halt}
use Rattle.texts.proofs.Taken.{read_left, read_plain, ends_fine}
use Rattle.texts.proofs.reader.rows.LinkEndsRow.read.Goals as goal

-- the entry, behind its first number
abbrev to_end : ℕ → (LinkEnds → NetForm) → ℕ → NetForm
to_end m k i = asked (station_fault 2 m) (λ j. k (record { from = i; to = j }))

abbrev behind : ℕ → (LinkEnds → NetForm) → ℕ → NetForm
behind m k i = mark 62 (to_end m k i)

pub returns-in_err-from : goal.returns-in_err-from
returns-in_err-from c =
    let r = c.from_residual.result in
    let m = c.args.stations in
    read_left (λ i. ends_entry m) (ends_fault m) (λ i e. None) c.args.reader.now r c.judged.new.self _ (err_from_is_err_and r c.from_residual.ensures.1) (λ i k. c.in_err-from.ensures.reads (behind m k))

pub returns-in_err-mark : goal.returns-in_err-mark
returns-in_err-mark c =
    let r = c.from_residual-in_err-mark.result in
    let m = c.args.stations in
    read_left (λ i. ends_entry m) (ends_fault m) (λ i e. None) c.args.reader.now r c.mark.new.self _ (err_from_is_err_and r c.from_residual-in_err-mark.ensures.1)
    (λ i k. and_halt (c.in_ok-from.ensures.reads (behind m k)) (c.in_err-mark.ensures (λ _. to_end m k c.in_ok-from.from)))

pub returns-in_err-to : goal.returns-in_err-to
returns-in_err-to c =
    let r = c.from_residual-in_err-to.result in
    let m = c.args.stations in
    read_left (λ i. ends_entry m) (ends_fault m) (λ i e. None) c.args.reader.now r c.judged-2.new.self _ (err_from_is_err_and r c.from_residual-in_err-to.ensures.1)
    (λ i k. and_halt (c.in_ok-from.ensures.reads (behind m k)) (and_halt (c.in_ok-mark.ensures (λ _. to_end m k c.in_ok-from.from)) (c.in_err-to.ensures.reads (λ j. k (record { from = c.in_ok-from.from; to = j })))))

pub returns : goal.returns
returns c =
    let m = c.args.stations in
    let e : LinkEnds = record { from = c.in_ok-from.from; to = c.in_ok-to.to } in
    let last = c.in_ok-to.ensures in
    let goes = λ (k : LinkEnds → NetForm). and_on (c.in_ok-from.ensures.reads (behind m k)) (and_on (c.in_ok-mark.ensures (λ _. to_end m k c.in_ok-from.from)) (last.reads (λ j. k (record { from = c.in_ok-from.from; to = j })))) in
    read_plain (λ i. ends_entry m) (ends_fault m) c.args.reader.now c.judged-2.new.self e c.mark.new.self.at
    (λ i k. goes k) (ends_fine m m e refl c.in_ok-from.ensures.fine last.fine) (omega (arith, ap length last.same, c.mark.new.self.within)) (goes (λ _. net_form)).same
