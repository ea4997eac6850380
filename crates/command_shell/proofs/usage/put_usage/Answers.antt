use Rattle.command_shell.proofs.UsagePut.{line_failed_first, line_failed_then, line_put}
use Rattle.command_shell.proofs.usage.put_usage.Goals as goal

pub returns-in_err-put_pieces : goal.returns-in_err-put_pieces
returns-in_err-put_pieces g c = line_failed_first c.args.program.now.name.now _ _ _ _ c.from_residual.ensures.0 c.in_err-put_pieces.ensures

pub returns-in_err-put_forms : goal.returns-in_err-put_forms
returns-in_err-put_forms g c = line_failed_then c.args.program.now.name.now _ _ _ _ _ c.from_residual-in_err-put_forms.ensures.0 c.in_ok-put_pieces.ensures c.in_err-put_forms.ensures

pub returns : goal.returns
returns g c = line_put c.args.program.now.name.now _ _ _ _ _ _ c.in_ok-put_pieces.ensures c.in_ok-put_forms.ensures c.put_pieces-2.ensures
