use Rattle.subject_model.proofs.SystemLaws.{raised_alone}
use Rattle.subject_model.proofs.events_reach_their_target_alone.Goals as goal

pub returns : goal.returns
returns c = raised_alone
