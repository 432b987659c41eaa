use Rattle.std.proofs.Common.{◌≡◌, IfErr, Ok, Err, Result, sym, refl, ap, ◌∙◌, subst}
use Rattle.std.proofs.lemmas.Result.{err_from_is_err_and, IfOk-from_err}
use Rattle.forms.specs.Form.{run}
use Rattle.forms.proofs.Exact.{right, reads_as, refuses_at, breaks_at}
use Rattle.texts.specs.Faults.{Worded}
use Rattle.texts.specs.NetText.{Whole, pieces}
use Rattle.texts.specs.NetForm.{net_form}
use Rattle.texts.specs.Outcomes.{outcome}
use Rattle.texts.proofs.NetTexts.{net_describes}
use Rattle.texts.proofs.read.Goals as goal

refused_any : {X E : Type 0} (r : Result X E) (P : E → Type 0) → ((e : E) → P e) → IfErr r P
refused_any (Ok x) P h = tt
refused_any (Err e) P h = h e

pub returns-in_err-filled : goal.returns-in_err-filled
returns-in_err-filled c =
    let t = c.args.text.now in
    let r = c.from_residual.result in
    let p = err_from_is_err_and r c.from_residual.ensures.1 in
    let h = c.in_err-filled.ensures in
    let was = p.1 ∙ ap Err p.2 in
    let o : outcome r c.args.tables.now ≡ run 0 net_form t = ap (λ z. outcome z c.args.tables.now) was ∙ h.0 in
    record {
      right = right net_form Whole pieces net_describes t _ o;
      reads = reads_as net_form Whole pieces net_describes t _ o;
      refuses = refuses_at net_form Whole pieces net_describes t _ o;
      breaks = breaks_at net_form Whole pieces net_describes t _ o;
      word = subst (λ z. IfErr z (λ e. Worded t e)) (sym was) h.1;
      unchanged = refused_any r _ (λ _. refl);
      behind = IfOk-from_err r _ c.from_residual.ensures.0;
    }

pub returns : goal.returns
returns c =
    let t = c.args.text.now in
    let h = c.in_ok-filled.ensures in
    let o : outcome (Ok c.in_ok-filled.filled) c.fill.new.tables ≡ run 0 net_form t = h.0 in
    record {
      right = right net_form Whole pieces net_describes t _ o;
      reads = reads_as net_form Whole pieces net_describes t _ o;
      refuses = refuses_at net_form Whole pieces net_describes t _ o;
      breaks = breaks_at net_form Whole pieces net_describes t _ o;
      word = tt;
      unchanged = tt;
      behind = h.1;
    }
