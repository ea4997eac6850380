use Rattle.std.proofs.Common.{refl, arith}
use Rattle.tests_machine.proofs.walks.worked_tables.Goals as goal

pub new-requires : goal.new-requires
new-requires g c = record { exponent = 12; few = omega arith; is = refl }

pub loop-eptp-init : goal.loop-eptp-init
loop-eptp-init g c = c.in_ok-keeping.ensures.fits _
