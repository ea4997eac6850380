use Rattle.proof_turns.proofs.Clocks.{begins_stand}
use Rattle.proof_turns.proofs.ticks_keep_standing.Goals as goal

pub returns : goal.returns
returns c = λ g fixed. begins_stand g fixed
