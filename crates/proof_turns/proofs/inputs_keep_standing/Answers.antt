use Rattle.proof_turns.proofs.Clocks.{takes_stand}
use Rattle.proof_turns.proofs.inputs_keep_standing.Goals as goal

pub returns : goal.returns
returns c = λ g fixed. takes_stand g fixed
