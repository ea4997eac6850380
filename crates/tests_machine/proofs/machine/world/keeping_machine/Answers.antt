use Rattle.std.proofs.Common.{refl, arith}
use Rattle.tests_machine.proofs.machine.world.keeping_machine.Goals as goal

pub new-requires : goal.new-requires
new-requires c = record { exponent = 4; few = omega arith; is = refl }
