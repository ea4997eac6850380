use Rattle.proof_turns.proofs.Turns.{turn_stands}
use Rattle.proof_turns.proofs.turns_keep_standing.Goals as goal

pub returns : goal.returns
returns c = λ g fixed. turn_stands g fixed
