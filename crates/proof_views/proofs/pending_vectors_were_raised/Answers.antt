use Rattle.proof_views.proofs.PendingVectors.{later_raised, now_raised, run_raised}
use Rattle.proof_views.proofs.pending_vectors_were_raised.Goals as goal

pub returns-clause-now : goal.returns-clause-now
returns-clause-now c = λ p files inputs order n. (run_raised p files inputs order n).now

pub returns-clause-later : goal.returns-clause-later
returns-clause-later c = λ p files inputs order n. (run_raised p files inputs order n).later

pub returns-clause-reaches_now : goal.returns-clause-reaches_now
returns-clause-reaches_now c = now_raised

pub returns-clause-reaches_later : goal.returns-clause-reaches_later
returns-clause-reaches_later c = later_raised
