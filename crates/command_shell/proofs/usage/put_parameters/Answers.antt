use Rattle.std.proofs.Common.{arith, refl}
use Rattle.muen_outside.proofs.Puts.{failed_line, puts_exit}
use Rattle.command_shell.specs.Forms.{parameter_text}
use Rattle.command_shell.proofs.usage.put_parameters.Goals as goal

pub returns-in_err-put_parameter : goal.returns-in_err-put_parameter
returns-in_err-put_parameter g c =
    puts_exit _ _ _ _ c.from_residual.ensures.0
    (failed_line (λ p. parameter_text p.now) c.args.parameters.now c.loop-parameter.parameter-index _ _ _ _ _ c.loop-parameter.invariant c.in_err-put_parameter.ensures (omega arith) refl)
