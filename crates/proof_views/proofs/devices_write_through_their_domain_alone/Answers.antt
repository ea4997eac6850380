use Rattle.subject_model.specs.Clock.{line_writes}
use Rattle.subject_model.proofs.DeviceWrites.{line_things, unwritten_stays}
use Rattle.proof_views.proofs.devices_write_through_their_domain_alone.Goals as goal

pub returns-clause-things : goal.returns-clause-things
returns-clause-things c = λ p device bytes address y x. unwritten_stays p device address bytes y x

pub returns-clause-rest : goal.returns-clause-rest
returns-clause-rest c = λ p device bytes address y. line_things (line_writes p device address bytes) y
