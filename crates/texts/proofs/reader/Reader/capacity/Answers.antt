use Rattle.std.proofs.Common.{◌≡◌, Some, sym, refl, ◌∙◌, arith, rules}
use Rattle.std.proofs.lemmas.Result.{err_from_is_err_and}
use Rattle.drafts.specs.Faults.{range_fault}
use Rattle.texts.specs.declared.lexer.Mark.TheVariants.{Dash}
use Rattle.texts.specs.declared.lexer.Lexeme.TheVariants.{Sign}
use Rattle.texts.proofs.Steps.{sign_here}
use Rattle.texts.proofs.Asked.{judged_judges}
use Rattle.texts.proofs.Capacities.{capacity_dash, capacity_err, capacity_out, capacity_read}
use Rattle.texts.proofs.reader.Reader.capacity.Goals as goal

pub invariant_of-self : goal.invariant_of-self
invariant_of-self c =
    let e : c.peek.result ≡ Some (Sign Dash) = search rules in
    let h = sign_here c.args.self.now.at c.args.self.now.text.now Dash (sym c.peek.ensures ∙ e) in
    omega (arith, h.0)

pub returns-then-eq : goal.returns-then-eq
returns-then-eq c =
    let e : c.peek.result ≡ Some (Sign Dash) = search rules in
    let h = sign_here c.args.self.now.at c.args.self.now.text.now Dash (sym c.peek.ensures ∙ e) in
    capacity_dash c.args.self.now _ h.0 h.1 refl refl

pub returns-in_err-value : goal.returns-in_err-value
returns-in_err-value c =
    let n : c.peek.result ≡ Some (Sign Dash) → ⊥ = search rules in
    capacity_err c.args.self.now c.number.new.self (λ e. n (c.peek.ensures ∙ e)) _ c.in_err-value.ensures.reads
    c.from_residual.result (err_from_is_err_and c.from_residual.result c.from_residual.ensures.1)

pub returns-in_err-capacity : goal.returns-in_err-capacity
returns-in_err-capacity c =
    let no : c.peek.result ≡ Some (Sign Dash) → ⊥ = search rules in
    let n = c.in_ok-value.value in
    capacity_out c.args.self.now c.number.new.self (λ e. no (c.peek.ensures ∙ e)) n c.in_ok-value.ensures.reads c.in_ok-value.ensures.same
    c.judge.result (judged_judges (range_fault 4 0 10_000) n c.judge.result c.judge.ensures.judged) _ c.in_err-capacity.ensures
    c.from_residual-in_err-capacity.result (err_from_is_err_and c.from_residual-in_err-capacity.result c.from_residual-in_err-capacity.ensures.1)

pub returns : goal.returns
returns c =
    let no : c.peek.result ≡ Some (Sign Dash) → ⊥ = search rules in
    let n = c.in_ok-value.value in
    capacity_read c.args.self.now c.number.new.self (λ e. no (c.peek.ensures ∙ e)) n c.in_ok-value.ensures.reads c.in_ok-value.ensures.same
    c.judge.result (judged_judges (range_fault 4 0 10_000) n c.judge.result c.judge.ensures.judged) c.in_ok-capacity.capacity c.in_ok-capacity.ensures
