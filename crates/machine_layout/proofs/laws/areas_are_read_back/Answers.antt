use Rattle.machine_layout.proofs.AreaLaws.{areas_are_read_back}
use Rattle.machine_layout.proofs.laws.areas_are_read_back.Goals as goal

pub returns : goal.returns
returns c = areas_are_read_back
