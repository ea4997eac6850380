use Rattle.std.proofs.Common.{◌≡◌}
use Rattle.muen_num.specs.Range.{numbers_below}
use Rattle.vmx_machine.specs.Machine.{saved}
use Rattle.vmx_machine.proofs.bus.Bus.save_area.Given as goal

-- the entries so far
abbrev pub invariant-loop-entry : goal.invariant-loop-entry
invariant-loop-entry g l = l.self ≡ saved l.file l.area (numbers_below l.entry) l.fn.self
