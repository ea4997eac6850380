use Rattle.proof_turns.proofs.Ends.{ended_stands}
use Rattle.proof_turns.proofs.the_end_keeps_standing.Goals as goal

pub returns : goal.returns
returns c = λ g fixed cpus k y many stands. ended_stands g fixed cpus many k y stands
