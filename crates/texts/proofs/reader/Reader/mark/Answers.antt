use Rattle.std.proofs.Common.{◌≡◌, Some, sym, refl, ◌∙◌, arith, rules}
use Rattle.forms.specs.Form.{mark}
use Rattle.texts.specs.declared.lexer.Lexeme.TheVariants.{Sign}
use Rattle.texts.specs.Lexemes.{byte_of}
use Rattle.texts.proofs.Steps.{sign_here, run_mark_yes, run_sign_no}
use Rattle.texts.proofs.Chains.{halts_form}
use Rattle.texts.proofs.reader.Reader.mark.Goals as goal

pub invariant_of-self : goal.invariant_of-self
invariant_of-self c =
    let e : c.peek.result ≡ Some (Sign c.args.m) = search rules in
    let h = sign_here c.args.self.now.at c.args.self.now.text.now c.args.m (sym c.peek.ensures ∙ e) in
    omega (arith, h.0)

pub returns-then-eq : goal.returns-then-eq
returns-then-eq c =
    let e : c.peek.result ≡ Some (Sign c.args.m) = search rules in
    let h = sign_here c.args.self.now.at c.args.self.now.text.now c.args.m (sym c.peek.ensures ∙ e) in
    λ k. record { runs = run_mark_yes c.args.self.now.at _ (k tt) c.args.self.now.text.now h.0 h.1; same = refl }

pub returns-else-eq : goal.returns-else-eq
returns-else-eq c =
    let x = c.args.self.now in
    let n : c.peek.result ≡ Some (Sign c.args.m) → ⊥ = search rules in
    λ k. halts_form x (mark (byte_of c.args.m) (k tt)) c.broken.result
    (run_sign_no x.at c.args.m (k tt) x.text.now (λ e. n (c.peek.ensures ∙ e))) c.broken.ensures.said c.broken.ensures.worded
