use Rattle.std.proofs.Common.{◌≡◌, ◌+◌, drop}
use Rattle.vmx_machine.specs.Machine.{written}
use Rattle.vmx_machine.proofs.bus.Bus.write_bytes.Given as goal

-- the bytes that remain, over those so far
abbrev pub invariant-loop-i : goal.invariant-loop-i
invariant-loop-i g l = written l.self (l.at + l.i) (drop l.i l.bytes) ≡ written l.fn.self l.at l.bytes
