use Rattle.subject_model.proofs.SystemLaws.{other_msrs, own_msrs}
use Rattle.subject_model.proofs.own_msrs_alone_are_written.Goals as goal

pub returns-clause-own : goal.returns-clause-own
returns-clause-own c = own_msrs

pub returns-clause-others : goal.returns-clause-others
returns-clause-others c = other_msrs
