use Rattle.std.proofs.Common.{◌++◌, ap, arith, codes}
use Rattle.muen_outside.proofs.Puts.{failed_line, puts_exit}
use Rattle.command_shell.specs.Forms.{form_shown, form_text}
use Rattle.command_shell.proofs.usage.put_others.Goals as goal

pub returns-in_err-put_form : goal.returns-in_err-put_form
returns-in_err-put_form g c =
    puts_exit _ _ _ _ c.from_residual.ensures.0
    (failed_line (λ f. codes ", " ++ form_text (form_shown f)) c.args.forms.now c.loop-form.form-index c.form-item.result _ _ _ _ c.loop-form.invariant c.in_err-put_form.ensures (omega arith)
    (ap (λ f. codes ", " ++ form_text (form_shown f)) c.form-item.is))
