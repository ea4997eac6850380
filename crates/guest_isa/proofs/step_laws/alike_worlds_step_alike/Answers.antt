use Rattle.guest_isa.proofs.Alike.{step_alike}
use Rattle.guest_isa.proofs.step_laws.alike_worlds_step_alike.Goals as goal

pub returns : goal.returns
returns g c = step_alike
