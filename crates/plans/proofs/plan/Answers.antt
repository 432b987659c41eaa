use Rattle.std.proofs.Common.{◌≡◌, replicate, Err, sym, ap, ◌∙◌, subst, arith}
use Rattle.std.proofs.lemmas.List.{length-take}
use Rattle.boards.specs.declared.text.LoadFault.TheVariants.{Text, Board}
use Rattle.reports.specs.Reported.{Reported}
use Rattle.plans.proofs.Reporting.{text_notice, refused_bytes, planned_within, shown, text_told, refusal_told, front_few, front_numbered, front_sized, circuit_told}
use Rattle.plans.proofs.plan.Goals as goal

pub returns-in-Ok : goal.returns-in-Ok
returns-in-Ok c =
    let P = shown c.args.text.now c.new-board.result c.load_text.new.self (replicate 64 c.default-list.result) c.load_text.new.list (omega arith) (omega arith) c.load_text.result c.load_text.ensures.loaded
    c.args.out.now c.report.new.out c.report.result c.in-Ok.field-0 c.in-Ok.is c.report.ensures in
    record { planned = P; within = planned_within c.args.text.now c.args.out.now c.report.new.out c.report.result (omega arith) P }

pub returns-in-Err-Text : goal.returns-in-Err-Text
returns-in-Err-Text c =
    let e : c.load_text.result ≡ Err (Text c.in-Err-Text.fault) = cc in
    let P = text_told c.args.text.now c.new-board.result c.load_text.new.self (replicate 64 c.default-list.result) c.load_text.new.list (omega arith) (omega arith) c.load_text.result c.load_text.ensures.loaded
    c.args.out.now c.report_refusal.new.out c.report_refusal.result c.in-Err-Text.fault c.told.result e (c.told.ensures ∙ ap text_notice c.in-Err-Text.fault-is) c.report_refusal.ensures in
    record { planned = P; within = planned_within c.args.text.now c.args.out.now c.report_refusal.new.out c.report_refusal.result (omega arith) P }

pub invariant_of-report_circuit : goal.invariant_of-report_circuit
invariant_of-report_circuit c =
    let e : c.load_text.result ≡ Err (Board c.in-Err-Board.refusal) = cc in
    let k = sym c.in-Err-Board.refusal-is ∙ c.in-NoTimetable.is in
    record {
      few = omega (arith, length-take c.in-NoTimetable.count c.load_text.new.list, front_few c.args.text.now c.new-board.result c.load_text.new.self (replicate 64 c.default-list.result) c.load_text.new.list (omega arith) (omega arith) c.load_text.result c.load_text.ensures.loaded c.in-Err-Board.refusal c.in-NoTimetable.count e k);
      numbered = front_numbered c.args.text.now c.new-board.result c.load_text.new.self (replicate 64 c.default-list.result) c.load_text.new.list (omega arith) (omega arith) c.load_text.result c.load_text.ensures.loaded c.in-Err-Board.refusal c.in-NoTimetable.count e k;
      sized = front_sized c.args.text.now c.new-board.result c.load_text.new.self (replicate 64 c.default-list.result) c.load_text.new.list (omega arith) (omega arith) c.load_text.result c.load_text.ensures.loaded c.in-Err-Board.refusal c.in-NoTimetable.count e k;
    }

pub returns-in-NoTimetable : goal.returns-in-NoTimetable
returns-in-NoTimetable c =
    let e : c.load_text.result ≡ Err (Board c.in-Err-Board.refusal) = cc in
    let P = circuit_told c.args.text.now c.new-board.result c.load_text.new.self (replicate 64 c.default-list.result) c.load_text.new.list (omega arith) (omega arith) c.load_text.result c.load_text.ensures.loaded
    c.in-Err-Board.refusal c.in-NoTimetable.count e (sym c.in-Err-Board.refusal-is ∙ c.in-NoTimetable.is) c.args.out.now c.report_circuit.new.out c.report_circuit.result c.report_circuit.ensures in
    record { planned = P; within = planned_within c.args.text.now c.args.out.now c.report_circuit.new.out c.report_circuit.result (omega arith) P }

pub returns-in_default : goal.returns-in_default
returns-in_default c =
    let e : c.load_text.result ≡ Err (Board c.in-Err-Board.refusal) = cc in
    let P = refusal_told c.args.text.now c.new-board.result c.load_text.new.self (replicate 64 c.default-list.result) c.load_text.new.list (omega arith) (omega arith) c.load_text.result c.load_text.ensures.loaded
    c.args.out.now c.report_told.new.out c.report_told.result c.in-Err-Board.refusal e (λ n k. c.in_default.not-NoTimetable n (c.in-Err-Board.refusal-is ∙ k))
    (subst (λ q. Reported (refused_bytes q) c.args.out.now c.report_told.new.out c.report_told.result) c.in-Err-Board.refusal-is c.report_told.ensures) in
    record { planned = P; within = planned_within c.args.text.now c.args.out.now c.report_told.new.out c.report_told.result (omega arith) P }
