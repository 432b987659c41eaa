use Rattle.std.proofs.Common.{ℕ, length, Option, ap, ◌∙◌, arith}
use Rattle.std.proofs.lemmas.Result.{err_from_is_err_and}
use Rattle.nets.specs.declared.LinkTerms.{LinkTerms}
use Rattle.drafts.specs.Faults.{range_fault}
use Rattle.drafts.specs.Entries.{terms_fault, room_fault}
use Rattle.forms.specs.Form.{mark}
use Rattle.texts.specs.NetForm.{NetForm, asked, terms_entry, capacity_entry, net_form}
use Rattle.texts.specs.Reading.{Goes}
use Rattle.texts.proofs.Chains.{and_on, and_halt}
use Rattle.texts.proofs.Taken.{read_left, terms_fine}
use Rattle.texts.proofs.reader.rows.LinkTermsRow.read.Goals as goal

-- the entry, from each of its numbers on
abbrev whole : (LinkTerms → NetForm) → ℕ → ℕ → ℕ → Option ℕ → NetForm
whole k w v u c = k (record { produced = w; consumed = v; stock = u; capacity = c })

abbrev capacities : ℕ → (LinkTerms → NetForm) → ℕ → ℕ → ℕ → NetForm
capacities i k w v u = capacity_entry i u (whole k w v u)

abbrev stocks : ℕ → (LinkTerms → NetForm) → ℕ → ℕ → NetForm
stocks i k w v = asked (range_fault 3 0 10_000) (λ u. mark 58 (capacities i k w v u))

abbrev consumeds : ℕ → (LinkTerms → NetForm) → ℕ → NetForm
consumeds i k w = asked (range_fault 2 1 1_000) (λ v. mark 58 (stocks i k w v))

pub returns-in_err-produced : goal.returns-in_err-produced
returns-in_err-produced c =
    let r = c.from_residual.result in
    read_left terms_entry terms_fault room_fault c.args.reader.now r c.judged.new.self _ (err_from_is_err_and r c.from_residual.ensures.1)
    (λ i k. c.in_err-produced.ensures.reads (λ w. mark 58 (consumeds i k w)))

pub returns-in_err-mark : goal.returns-in_err-mark
returns-in_err-mark c =
    let r = c.from_residual-in_err-mark.result in
    read_left terms_entry terms_fault room_fault c.args.reader.now r c.mark.new.self _ (err_from_is_err_and r c.from_residual-in_err-mark.ensures.1)
    (λ i k. and_halt (c.in_ok-produced.ensures.reads (λ w. mark 58 (consumeds i k w))) (c.in_err-mark.ensures (λ _. consumeds i k c.in_ok-produced.produced)))

pub returns-in_err-consumed : goal.returns-in_err-consumed
returns-in_err-consumed c =
    let r = c.from_residual-in_err-consumed.result in
    read_left terms_entry terms_fault room_fault c.args.reader.now r c.judged-2.new.self _ (err_from_is_err_and r c.from_residual-in_err-consumed.ensures.1)
    (λ i k. and_halt (c.in_ok-produced.ensures.reads (λ w. mark 58 (consumeds i k w))) (and_halt (c.in_ok-mark.ensures (λ _. consumeds i k c.in_ok-produced.produced)) (c.in_err-consumed.ensures.reads (λ v. mark 58 (stocks i k c.in_ok-produced.produced v)))))

pub returns-in_err-mark-2 : goal.returns-in_err-mark-2
returns-in_err-mark-2 c =
    let r = c.from_residual-in_err-mark-2.result in
    read_left terms_entry terms_fault room_fault c.args.reader.now r c.mark-2.new.self _ (err_from_is_err_and r c.from_residual-in_err-mark-2.ensures.1)
    (λ i k. and_halt (c.in_ok-produced.ensures.reads (λ w. mark 58 (consumeds i k w))) (and_halt (c.in_ok-mark.ensures (λ _. consumeds i k c.in_ok-produced.produced)) (and_halt (c.in_ok-consumed.ensures.reads (λ v. mark 58 (stocks i k c.in_ok-produced.produced v))) (c.in_err-mark-2.ensures (λ _. stocks i k c.in_ok-produced.produced c.in_ok-consumed.consumed)))))

pub returns-in_err-stock : goal.returns-in_err-stock
returns-in_err-stock c =
    let r = c.from_residual-in_err-stock.result in
    read_left terms_entry terms_fault room_fault c.args.reader.now r c.judged-3.new.self _ (err_from_is_err_and r c.from_residual-in_err-stock.ensures.1)
    (λ i k. and_halt (c.in_ok-produced.ensures.reads (λ w. mark 58 (consumeds i k w))) (and_halt (c.in_ok-mark.ensures (λ _. consumeds i k c.in_ok-produced.produced)) (and_halt (c.in_ok-consumed.ensures.reads (λ v. mark 58 (stocks i k c.in_ok-produced.produced v))) (and_halt (c.in_ok-mark-2.ensures (λ _. stocks i k c.in_ok-produced.produced c.in_ok-consumed.consumed)) (c.in_err-stock.ensures.reads (λ u. mark 58 (capacities i k c.in_ok-produced.produced c.in_ok-consumed.consumed u)))))))

pub returns-in_err-mark-3 : goal.returns-in_err-mark-3
returns-in_err-mark-3 c =
    let r = c.from_residual-in_err-mark-3.result in
    read_left terms_entry terms_fault room_fault c.args.reader.now r c.mark-3.new.self _ (err_from_is_err_and r c.from_residual-in_err-mark-3.ensures.1)
    (λ i k. and_halt (c.in_ok-produced.ensures.reads (λ w. mark 58 (consumeds i k w))) (and_halt (c.in_ok-mark.ensures (λ _. consumeds i k c.in_ok-produced.produced)) (and_halt (c.in_ok-consumed.ensures.reads (λ v. mark 58 (stocks i k c.in_ok-produced.produced v))) (and_halt (c.in_ok-mark-2.ensures (λ _. stocks i k c.in_ok-produced.produced c.in_ok-consumed.consumed)) (and_halt (c.in_ok-stock.ensures.reads (λ u. mark 58 (capacities i k c.in_ok-produced.produced c.in_ok-consumed.consumed u))) (c.in_err-mark-3.ensures (λ _. capacities i k c.in_ok-produced.produced c.in_ok-consumed.consumed c.in_ok-stock.stock)))))))

pub returns-in_err-capacity : goal.returns-in_err-capacity
returns-in_err-capacity c =
    let r = c.from_residual-in_err-capacity.result in
    read_left terms_entry terms_fault room_fault c.args.reader.now r c.capacity.new.self _ (err_from_is_err_and r c.from_residual-in_err-capacity.ensures.1)
    (λ i k. and_halt (c.in_ok-produced.ensures.reads (λ w. mark 58 (consumeds i k w))) (and_halt (c.in_ok-mark.ensures (λ _. consumeds i k c.in_ok-produced.produced)) (and_halt (c.in_ok-consumed.ensures.reads (λ v. mark 58 (stocks i k c.in_ok-produced.produced v))) (and_halt (c.in_ok-mark-2.ensures (λ _. stocks i k c.in_ok-produced.produced c.in_ok-consumed.consumed)) (and_halt (c.in_ok-stock.ensures.reads (λ u. mark 58 (capacities i k c.in_ok-produced.produced c.in_ok-consumed.consumed u))) (and_halt (c.in_ok-mark-3.ensures (λ _. capacities i k c.in_ok-produced.produced c.in_ok-consumed.consumed c.in_ok-stock.stock)) (c.in_err-capacity.ensures.fits i c.in_ok-stock.stock (whole k c.in_ok-produced.produced c.in_ok-consumed.consumed c.in_ok-stock.stock))))))))

pub returns : goal.returns
returns c =
    let e : LinkTerms = record { produced = c.in_ok-produced.produced; consumed = c.in_ok-consumed.consumed; stock = c.in_ok-stock.stock; capacity = c.in_ok-capacity.capacity } in
    let last = c.in_ok-capacity.ensures in
    let first : (i : ℕ) (k : LinkTerms → NetForm) → Goes c.args.reader.now (terms_entry i k) c.mark-3.new.self (capacities i k c.in_ok-produced.produced c.in_ok-consumed.consumed c.in_ok-stock.stock)
    = λ i k. and_on (c.in_ok-produced.ensures.reads (λ w. mark 58 (consumeds i k w))) (and_on (c.in_ok-mark.ensures (λ _. consumeds i k c.in_ok-produced.produced)) (and_on (c.in_ok-consumed.ensures.reads (λ v. mark 58 (stocks i k c.in_ok-produced.produced v))) (and_on (c.in_ok-mark-2.ensures (λ _. stocks i k c.in_ok-produced.produced c.in_ok-consumed.consumed)) (and_on (c.in_ok-stock.ensures.reads (λ u. mark 58 (capacities i k c.in_ok-produced.produced c.in_ok-consumed.consumed u))) (c.in_ok-mark-3.ensures (λ _. capacities i k c.in_ok-produced.produced c.in_ok-consumed.consumed c.in_ok-stock.stock)))))) in
    record {
      fits = λ i k z. and_on (first i k) (last.fits i e.stock (whole k e.produced e.consumed e.stock) z);
      refuses = λ i k f z. (first i k).runs ∙ last.below i e.stock (whole k e.produced e.consumed e.stock) f z;
      fine = terms_fine e c.in_ok-produced.ensures.fine c.in_ok-consumed.ensures.fine c.in_ok-stock.ensures.fine last.fine;
      inside = omega (arith, ap length last.same, c.mark-3.new.self.within);
      same = last.same ∙ (first 0 (λ _. net_form)).same;
    }
