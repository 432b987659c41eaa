use Rattle.std.proofs.Common.{ℕ}
use Rattle.std.proofs.lemmas.Result.{err_from_is_err_and, IfOk-from_err}
use Rattle.drafts.specs.declared.stage.NetSizes.{NetSizes}
use Rattle.drafts.specs.Faults.{range_fault}
use Rattle.forms.specs.Form.{mark}
use Rattle.texts.specs.NetForm.{NetForm, asked}
use Rattle.texts.proofs.Chains.{and_on, and_halt, leave}
use Rattle.texts.proofs.Taken.{took_sizes, sizes_fine}
use Rattle.texts.proofs.reader.Reader.sizes.Goals as goal

-- the line, from each of its numbers on
abbrev last : (NetSizes → NetForm) → ℕ → ℕ → ℕ → ℕ → NetForm
last k n m a b = mark 10 (k (record { stations = n; links = m; pace = record { share = a; unit = b } }))

abbrev units : (NetSizes → NetForm) → ℕ → ℕ → ℕ → NetForm
units k n m a = mark 32 (asked (range_fault 4 1 10_000_000_000) (last k n m a))

abbrev shares : (NetSizes → NetForm) → ℕ → ℕ → NetForm
shares k n m = mark 32 (asked (range_fault 3 1 1_000_000) (units k n m))

abbrev links : (NetSizes → NetForm) → ℕ → NetForm
links k n = mark 32 (asked (range_fault 2 0 128) (shares k n))

abbrev stations : (NetSizes → NetForm) → NetForm
stations k = mark 32 (asked (range_fault 1 1 64) (links k))

pub returns-in_err-name : goal.returns-in_err-name
returns-in_err-name c =
    let r = c.from_residual.result in
    record {
      reads = λ k. leave r _ k c.name.new.self (err_from_is_err_and r c.from_residual.ensures.1)
          (c.in_err-name.ensures (λ _. stations k));
      kept = IfOk-from_err r _ c.from_residual.ensures.0;
    }

pub returns-in_err-mark : goal.returns-in_err-mark
returns-in_err-mark c =
    let r = c.from_residual-in_err-mark.result in
    record {
      reads = λ k. leave r _ k c.mark.new.self (err_from_is_err_and r c.from_residual-in_err-mark.ensures.1)
          (and_halt (c.in_ok-name.ensures (λ _. stations k)) (c.in_err-mark.ensures (λ _. asked (range_fault 1 1 64) (links k))));
      kept = IfOk-from_err r _ c.from_residual-in_err-mark.ensures.0;
    }

pub returns-in_err-stations : goal.returns-in_err-stations
returns-in_err-stations c =
    let r = c.from_residual-in_err-stations.result in
    record {
      reads = λ k. leave r _ k c.judged.new.self (err_from_is_err_and r c.from_residual-in_err-stations.ensures.1)
          (and_halt (c.in_ok-name.ensures (λ _. stations k)) (and_halt (c.in_ok-mark.ensures (λ _. asked (range_fault 1 1 64) (links k))) (c.in_err-stations.ensures.reads (links k))));
      kept = IfOk-from_err r _ c.from_residual-in_err-stations.ensures.0;
    }

pub returns-in_err-mark-2 : goal.returns-in_err-mark-2
returns-in_err-mark-2 c =
    let r = c.from_residual-in_err-mark-2.result in
    record {
      reads = λ k. leave r _ k c.mark-2.new.self (err_from_is_err_and r c.from_residual-in_err-mark-2.ensures.1)
          (and_halt (c.in_ok-name.ensures (λ _. stations k)) (and_halt (c.in_ok-mark.ensures (λ _. asked (range_fault 1 1 64) (links k))) (and_halt (c.in_ok-stations.ensures.reads (links k)) (c.in_err-mark-2.ensures (λ _. asked (range_fault 2 0 128) (shares k c.in_ok-stations.stations))))));
      kept = IfOk-from_err r _ c.from_residual-in_err-mark-2.ensures.0;
    }

pub returns-in_err-links : goal.returns-in_err-links
returns-in_err-links c =
    let r = c.from_residual-in_err-links.result in
    record {
      reads = λ k. leave r _ k c.judged-2.new.self (err_from_is_err_and r c.from_residual-in_err-links.ensures.1)
          (and_halt (c.in_ok-name.ensures (λ _. stations k)) (and_halt (c.in_ok-mark.ensures (λ _. asked (range_fault 1 1 64) (links k))) (and_halt (c.in_ok-stations.ensures.reads (links k)) (and_halt (c.in_ok-mark-2.ensures (λ _. asked (range_fault 2 0 128) (shares k c.in_ok-stations.stations))) (c.in_err-links.ensures.reads (shares k c.in_ok-stations.stations))))));
      kept = IfOk-from_err r _ c.from_residual-in_err-links.ensures.0;
    }

pub returns-in_err-mark-3 : goal.returns-in_err-mark-3
returns-in_err-mark-3 c =
    let r = c.from_residual-in_err-mark-3.result in
    record {
      reads = λ k. leave r _ k c.mark-3.new.self (err_from_is_err_and r c.from_residual-in_err-mark-3.ensures.1)
          (and_halt (c.in_ok-name.ensures (λ _. stations k)) (and_halt (c.in_ok-mark.ensures (λ _. asked (range_fault 1 1 64) (links k))) (and_halt (c.in_ok-stations.ensures.reads (links k)) (and_halt (c.in_ok-mark-2.ensures (λ _. asked (range_fault 2 0 128) (shares k c.in_ok-stations.stations))) (and_halt (c.in_ok-links.ensures.reads (shares k c.in_ok-stations.stations)) (c.in_err-mark-3.ensures (λ _. asked (range_fault 3 1 1_000_000) (units k c.in_ok-stations.stations c.in_ok-links.links))))))));
      kept = IfOk-from_err r _ c.from_residual-in_err-mark-3.ensures.0;
    }

pub returns-in_err-share : goal.returns-in_err-share
returns-in_err-share c =
    let r = c.from_residual-in_err-share.result in
    record {
      reads = λ k. leave r _ k c.judged-3.new.self (err_from_is_err_and r c.from_residual-in_err-share.ensures.1)
          (and_halt (c.in_ok-name.ensures (λ _. stations k)) (and_halt (c.in_ok-mark.ensures (λ _. asked (range_fault 1 1 64) (links k))) (and_halt (c.in_ok-stations.ensures.reads (links k)) (and_halt (c.in_ok-mark-2.ensures (λ _. asked (range_fault 2 0 128) (shares k c.in_ok-stations.stations))) (and_halt (c.in_ok-links.ensures.reads (shares k c.in_ok-stations.stations)) (and_halt (c.in_ok-mark-3.ensures (λ _. asked (range_fault 3 1 1_000_000) (units k c.in_ok-stations.stations c.in_ok-links.links))) (c.in_err-share.ensures.reads (units k c.in_ok-stations.stations c.in_ok-links.links))))))));
      kept = IfOk-from_err r _ c.from_residual-in_err-share.ensures.0;
    }

pub returns-in_err-mark-4 : goal.returns-in_err-mark-4
returns-in_err-mark-4 c =
    let r = c.from_residual-in_err-mark-4.result in
    record {
      reads = λ k. leave r _ k c.mark-4.new.self (err_from_is_err_and r c.from_residual-in_err-mark-4.ensures.1)
          (and_halt (c.in_ok-name.ensures (λ _. stations k)) (and_halt (c.in_ok-mark.ensures (λ _. asked (range_fault 1 1 64) (links k))) (and_halt (c.in_ok-stations.ensures.reads (links k)) (and_halt (c.in_ok-mark-2.ensures (λ _. asked (range_fault 2 0 128) (shares k c.in_ok-stations.stations))) (and_halt (c.in_ok-links.ensures.reads (shares k c.in_ok-stations.stations)) (and_halt (c.in_ok-mark-3.ensures (λ _. asked (range_fault 3 1 1_000_000) (units k c.in_ok-stations.stations c.in_ok-links.links))) (and_halt (c.in_ok-share.ensures.reads (units k c.in_ok-stations.stations c.in_ok-links.links)) (c.in_err-mark-4.ensures (λ _. asked (range_fault 4 1 10_000_000_000) (last k c.in_ok-stations.stations c.in_ok-links.links c.in_ok-share.share))))))))));
      kept = IfOk-from_err r _ c.from_residual-in_err-mark-4.ensures.0;
    }

pub returns-in_err-unit : goal.returns-in_err-unit
returns-in_err-unit c =
    let r = c.from_residual-in_err-unit.result in
    record {
      reads = λ k. leave r _ k c.judged-4.new.self (err_from_is_err_and r c.from_residual-in_err-unit.ensures.1)
          (and_halt (c.in_ok-name.ensures (λ _. stations k)) (and_halt (c.in_ok-mark.ensures (λ _. asked (range_fault 1 1 64) (links k))) (and_halt (c.in_ok-stations.ensures.reads (links k)) (and_halt (c.in_ok-mark-2.ensures (λ _. asked (range_fault 2 0 128) (shares k c.in_ok-stations.stations))) (and_halt (c.in_ok-links.ensures.reads (shares k c.in_ok-stations.stations)) (and_halt (c.in_ok-mark-3.ensures (λ _. asked (range_fault 3 1 1_000_000) (units k c.in_ok-stations.stations c.in_ok-links.links))) (and_halt (c.in_ok-share.ensures.reads (units k c.in_ok-stations.stations c.in_ok-links.links)) (and_halt (c.in_ok-mark-4.ensures (λ _. asked (range_fault 4 1 10_000_000_000) (last k c.in_ok-stations.stations c.in_ok-links.links c.in_ok-share.share))) (c.in_err-unit.ensures.reads (last k c.in_ok-stations.stations c.in_ok-links.links c.in_ok-share.share))))))))));
      kept = IfOk-from_err r _ c.from_residual-in_err-unit.ensures.0;
    }

pub returns-in_err-mark-5 : goal.returns-in_err-mark-5
returns-in_err-mark-5 c =
    let r = c.from_residual-in_err-mark-5.result in
    record {
      reads = λ k. leave r _ k c.mark-5.new.self (err_from_is_err_and r c.from_residual-in_err-mark-5.ensures.1)
          (and_halt (c.in_ok-name.ensures (λ _. stations k)) (and_halt (c.in_ok-mark.ensures (λ _. asked (range_fault 1 1 64) (links k))) (and_halt (c.in_ok-stations.ensures.reads (links k)) (and_halt (c.in_ok-mark-2.ensures (λ _. asked (range_fault 2 0 128) (shares k c.in_ok-stations.stations))) (and_halt (c.in_ok-links.ensures.reads (shares k c.in_ok-stations.stations)) (and_halt (c.in_ok-mark-3.ensures (λ _. asked (range_fault 3 1 1_000_000) (units k c.in_ok-stations.stations c.in_ok-links.links))) (and_halt (c.in_ok-share.ensures.reads (units k c.in_ok-stations.stations c.in_ok-links.links)) (and_halt (c.in_ok-mark-4.ensures (λ _. asked (range_fault 4 1 10_000_000_000) (last k c.in_ok-stations.stations c.in_ok-links.links c.in_ok-share.share))) (and_halt (c.in_ok-unit.ensures.reads (last k c.in_ok-stations.stations c.in_ok-links.links c.in_ok-share.share)) (c.in_err-mark-5.ensures (λ _. k (record { stations = c.in_ok-stations.stations; links = c.in_ok-links.links; pace = record { share = c.in_ok-share.share; unit = c.in_ok-unit.unit } }))))))))))));
      kept = IfOk-from_err r _ c.from_residual-in_err-mark-5.ensures.0;
    }

pub returns : goal.returns
returns c =
    let e : NetSizes = record { stations = c.in_ok-stations.stations; links = c.in_ok-links.links; pace = record { share = c.in_ok-share.share; unit = c.in_ok-unit.unit } } in
    let fine = sizes_fine e c.in_ok-stations.ensures.fine c.in_ok-links.ensures.fine c.in_ok-share.ensures.fine c.in_ok-unit.ensures.fine in
    let took = took_sizes c.args.stage.now.entry e c.take.result c.placed.result _ _ _ c.take.ensures.told c.take.ensures.taken c.placed.ensures c.requires fine in
    record {
      reads = λ k. and_on (c.in_ok-name.ensures (λ _. stations k)) (and_on (c.in_ok-mark.ensures (λ _. asked (range_fault 1 1 64) (links k))) (and_on (c.in_ok-stations.ensures.reads (links k)) (and_on (c.in_ok-mark-2.ensures (λ _. asked (range_fault 2 0 128) (shares k c.in_ok-stations.stations))) (and_on (c.in_ok-links.ensures.reads (shares k c.in_ok-stations.stations)) (and_on (c.in_ok-mark-3.ensures (λ _. asked (range_fault 3 1 1_000_000) (units k c.in_ok-stations.stations c.in_ok-links.links))) (and_on (c.in_ok-share.ensures.reads (units k c.in_ok-stations.stations c.in_ok-links.links)) (and_on (c.in_ok-mark-4.ensures (λ _. asked (range_fault 4 1 10_000_000_000) (last k c.in_ok-stations.stations c.in_ok-links.links c.in_ok-share.share))) (and_on (c.in_ok-unit.ensures.reads (last k c.in_ok-stations.stations c.in_ok-links.links c.in_ok-share.share)) (c.in_ok-mark-5.ensures (λ _. k (record { stations = c.in_ok-stations.stations; links = c.in_ok-links.links; pace = record { share = c.in_ok-share.share; unit = c.in_ok-unit.unit } })))))))))));
      kept = took.1;
    }
