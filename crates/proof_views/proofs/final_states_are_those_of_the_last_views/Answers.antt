use Rattle.proof_views.proofs.LastViews.{first_msrs, first_state, msrs_left, state_left}
use Rattle.proof_views.proofs.final_states_are_those_of_the_last_views.Goals as goal

pub returns-clause-states : goal.returns-clause-states
returns-clause-states c = λ p files r s n lawful is once ends. state_left p files r n lawful s is once ends

pub returns-clause-msrs : goal.returns-clause-msrs
returns-clause-msrs c = λ p files r s n lawful is once ends. msrs_left p files r n lawful s is once ends

pub returns-clause-first_state : goal.returns-clause-first_state
returns-clause-first_state c = first_state

pub returns-clause-first_msrs : goal.returns-clause-first_msrs
returns-clause-first_msrs c = first_msrs
