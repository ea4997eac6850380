use Rattle.subject_model.proofs.SystemLaws.{port_alone}
use Rattle.subject_model.proofs.granted_ports_alone_are_read.Goals as goal

pub returns : goal.returns
returns c = port_alone
