use Rattle.command_shell.proofs.UsagePut.{form_failed, form_put}
use Rattle.command_shell.proofs.usage.put_form.Goals as goal

pub returns-in_err-put_pieces : goal.returns-in_err-put_pieces
returns-in_err-put_pieces g c = form_failed c.args.before.now c.args.form.now.word.now c.args.form.now.parameters.now _ _ _ c.from_residual.ensures.0 c.in_err-put_pieces.ensures

pub returns : goal.returns
returns g c = form_put c.args.before.now c.args.form.now.word.now c.args.form.now.parameters.now _ _ _ _ c.in_ok-put_pieces.ensures c.put_parameters.ensures
