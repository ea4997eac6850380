use Rattle.std.proofs.Common.{◌≡◌, ◌++◌, take}
use Rattle.std.specs.List.{flat_map}
use Rattle.guest_isa.specs.GuestIsa.{encoding_of}
use Rattle.generated_system.proofs.code.add_code.Given as goal

abbrev pub invariant-loop-instruction : goal.invariant-loop-instruction
invariant-loop-instruction l = l.bytes.items ≡ l.initial.bytes.items ++ flat_map encoding_of (take l.instruction-index l.program)
