use Rattle.std.proofs.Common.{take}
use Rattle.std.specs.List.{flat_map}
use Rattle.muen_outside.specs.Puts.{Appended}
use Rattle.command_shell.specs.Forms.{parameter_text}
use Rattle.command_shell.proofs.usage.put_parameters.Given as goal

abbrev pub invariant-loop-parameter : goal.invariant-loop-parameter
invariant-loop-parameter g l =
    Appended (flat_map (λ p. parameter_text p.now) (take l.parameter-index l.parameters)) (g.E.Sink.state l.initial.err) (g.E.Sink.state l.err)
