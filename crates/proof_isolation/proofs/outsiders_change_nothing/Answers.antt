use Rattle.proof_isolation.proofs.OutsiderTurns.{outsiders_leave}
use Rattle.proof_isolation.proofs.outsiders_change_nothing.Goals as goal

pub returns : goal.returns
returns c = outsiders_leave
