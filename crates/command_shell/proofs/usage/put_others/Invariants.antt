use Rattle.std.proofs.Common.{◌++◌, codes, take}
use Rattle.std.specs.List.{flat_map}
use Rattle.muen_outside.specs.Puts.{Appended}
use Rattle.command_shell.specs.Forms.{form_shown, form_text}
use Rattle.command_shell.proofs.usage.put_others.Given as goal

abbrev pub invariant-loop-form : goal.invariant-loop-form
invariant-loop-form g l =
    Appended (flat_map (λ f. codes ", " ++ form_text (form_shown f)) (take l.form-index l.forms)) (g.E.Sink.state l.initial.err) (g.E.Sink.state l.err)
