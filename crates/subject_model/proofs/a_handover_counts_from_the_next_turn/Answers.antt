use Rattle.subject_model.proofs.SystemLaws.{handed_over}
use Rattle.subject_model.proofs.a_handover_counts_from_the_next_turn.Goals as goal

pub returns : goal.returns
returns c = handed_over
