use Rattle.std.proofs.Common.{◌≡◌, ◌+◌, Bool, true, false, not, drop, sym, refl, ◌∙◌, ⊎_elim, arith}
use Rattle.std.proofs.lemmas.List.{at_drop_more, at_drop_all}
use Rattle.forms.specs.Form.{run, broken}
use Rattle.forms.specs.Lines.{word}
use Rattle.texts.proofs.Steps.{run_mark_yes, run_mark_no, run_mark_end, byte_is, byte_is_not}
use Rattle.texts.proofs.Chains.{and_on, and_halt, halts_form}
use Rattle.texts.proofs.reader.Reader.name.Goals as goal

not_true : (b : Bool) → not b ≡ true → b ≡ false
not_true true e = sym e
not_true false e = refl

not_false : (b : Bool) → not b ≡ false → b ≡ true
not_false true e = refl
not_false false e = sym e

pub returns-then-ne : goal.returns-then-ne
returns-then-ne c =
    let x = c.loop-b.self in
    let s = x.text.now in
    let bs = c.args.letters.now in
    let i = c.loop-b.b-index in
    let other = byte_is_not _ _ s x.at c.get.ensures.lookup.3 (not_true _ (sym c.ne.ensures ∙ c.if-ne.true)) in
    λ k.
    let left : run x.at (word (drop i bs) (k tt)) (drop x.at s) ≡ broken x.at =
    at_drop_more (λ w. run x.at (word w (k tt)) (drop x.at s)) bs i 0 c.loop-b-test.true
    ∙ ⊎_elim (λ h. run_mark_end x.at _ _ s h) (λ h. run_mark_no x.at _ _ s h.0 h.1) other in
    and_halt (c.loop-b.invariant (k tt)) (halts_form x (word (drop i bs) (k tt)) c.broken.result left c.broken.ensures.said c.broken.ensures.worded)

pub loop-b-preserved : goal.loop-b-preserved
loop-b-preserved c =
    let x = c.loop-b.self in
    let s = x.text.now in
    let bs = c.args.letters.now in
    let i = c.loop-b.b-index in
    let here = byte_is _ _ s x.at c.get.ensures.lookup.3 (not_false _ (sym c.ne.ensures ∙ c.if-ne.false)) in
    λ k. and_on (c.loop-b.invariant k) (record {
      runs = at_drop_more (λ w. run x.at (word w k) (drop x.at s)) bs i 0 (omega arith)
          ∙ run_mark_yes x.at _ (word (drop (i + 1) bs) k) s here.0 here.1;
      same = refl;
    })

pub returns : goal.returns
returns c =
    let x = c.loop-b.self in
    let s = x.text.now in
    λ k. and_on (c.loop-b.invariant (k tt)) (record {
      runs = at_drop_all (λ w. run x.at (word w (k tt)) (drop x.at s)) c.args.letters.now c.loop-b.b-index (omega arith);
      same = refl;
    })
