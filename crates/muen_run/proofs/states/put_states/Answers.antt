use Rattle.std.proofs.Common.{◌<◌, length, ap, arith, rules}
use Rattle.kernel_core.specs.declared.setup.Setup.{Setup}
use Rattle.muen_run.specs.RunText.{numbered_subject_text}
use Rattle.muen_outside.proofs.Buffered.{given_none}
use Rattle.muen_run.proofs.Numbered.{number_exit}
use Rattle.muen_run.proofs.states.put_states.Goals as goal

pub returns-in_err-put_numbered : goal.returns-in_err-put_numbered
returns-in_err-put_numbered g c =
    let k = c.args.kernel.now in
    let many : c.loop-n.n < length k.setup.subjects = omega (arith, ap (λ (s : Setup). length s.subjects) c.setup.ensures) in
    (search rules, number_exit (numbered_subject_text k.setup k.live.machine.pages) c.loop-n.n (length k.setup.subjects) _ _ _ _ c.from_residual.ensures.0 many c.loop-n.invariant.1 c.in_err-put_numbered.ensures.1)

pub loop-n-init : goal.loop-n-init
loop-n-init g c = (search rules, given_none _)
