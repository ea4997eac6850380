use Rattle.command_shell.proofs.UsagePut.{forms_failed, forms_put, no_forms_put}
use Rattle.command_shell.proofs.usage.put_forms.Goals as goal

pub returns-in-None : goal.returns-in-None
returns-in-None g c = no_forms_put c.args.forms.now _ _ _ c.in-None.ensures.cases c.put_pieces.ensures

pub returns-in_err-put_form-in-Some : goal.returns-in_err-put_form-in-Some
returns-in_err-put_form-in-Some g c =
    forms_failed c.args.forms.now _ _ _ c.in-Some.first.now c.in-Some.others.now c.in-Some.ensures.cases.0 c.from_residual.ensures.0 c.in_err-put_form-in-Some.ensures

pub returns-in_ok-put_form-in-Some : goal.returns-in_ok-put_form-in-Some
returns-in_ok-put_form-in-Some g c =
    forms_put c.args.forms.now _ _ _ c.in-Some.first.now c.in-Some.others.now c.in-Some.ensures.cases.0 _ c.in_ok-put_form-in-Some.ensures c.put_others.ensures
