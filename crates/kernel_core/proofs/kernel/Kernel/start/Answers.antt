use Rattle.std.proofs.Common.{◌∙◌, None, ap, length, rules}
use Rattle.std.proofs.lemmas.List.{length-replicate}
use Rattle.vmx_machine.specs.Machine.{MachineState}
use Rattle.kernel_core.proofs.kernel.Kernel.start.Goals as goal

pub invariant_of-result : goal.invariant_of-result
invariant_of-result g c = (
  ap length c.in_ok-router.ensures.on ∙ length-replicate c.args.cpus None,
  ap (λ (m : MachineState). length m.cpus) c.in_ok-machine.ensures ∙ length-replicate c.args.cpus _,
  search rules,
  c.in_ok-router.ensures.kept c.args.setup.plan,
)
