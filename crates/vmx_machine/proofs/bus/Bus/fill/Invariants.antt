use Rattle.std.proofs.Common.{◌≡◌}
use Rattle.vmx_machine.specs.Machine.{page_bytes_at, entries_in, msrs_loaded}
use Rattle.vmx_machine.proofs.bus.Bus.fill.Given as goal

-- the entries so far
abbrev pub invariant-loop-entry : goal.invariant-loop-entry
invariant-loop-entry g l = l.file ≡ msrs_loaded (entries_in l.entry (page_bytes_at l.self l.area)) l.fn.file
