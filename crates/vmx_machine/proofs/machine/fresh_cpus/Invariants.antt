use Rattle.std.proofs.Common.{◌≡◌}
use Rattle.std.specs.Prelude.{replicate}
use Rattle.vmx_machine.specs.Machine.{fresh}
use Rattle.vmx_machine.proofs.machine.fresh_cpus.Given as goal

-- the CPUs so far
abbrev pub invariant-loop : goal.invariant-loop
invariant-loop l = l.cpus.items ≡ replicate l.counter fresh
