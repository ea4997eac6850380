use Rattle.proof_views.proofs.ThingsStay.{input_leaves, ticks_leave, turn_leaves, turn_stores}
use Rattle.proof_views.proofs.things_change_through_windows_alone.Goals as goal

pub returns-clause-turns : goal.returns-clause-turns
returns-clause-turns c = turn_leaves

pub returns-clause-inputs : goal.returns-clause-inputs
returns-clause-inputs c = input_leaves

pub returns-clause-ticks : goal.returns-clause-ticks
returns-clause-ticks c = ticks_leave

pub returns-clause-stores : goal.returns-clause-stores
returns-clause-stores c = turn_stores
