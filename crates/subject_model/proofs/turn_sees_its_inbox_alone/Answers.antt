use Rattle.subject_model.proofs.SystemLaws.{inbox_alone}
use Rattle.subject_model.proofs.turn_sees_its_inbox_alone.Goals as goal

pub returns : goal.returns
returns c = inbox_alone
