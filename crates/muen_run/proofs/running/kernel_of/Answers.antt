use Rattle.std.proofs.Common.{refl, arith}
use Rattle.muen_run.proofs.running.kernel_of.Goals as goal

pub new-requires : goal.new-requires
new-requires c = record { exponent = 12; few = omega arith; is = refl }

pub start-requires-2-clause-fits : goal.start-requires-2-clause-fits
start-requires-2-clause-fits c = c.in_ok-walk.ensures.fits _
