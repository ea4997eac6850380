use Rattle.image_pack.proofs.ConditionsFit.{conditions_fit}
use Rattle.image_pack.proofs.PartsKeep.{parts_keep}
use Rattle.image_pack.proofs.image.conditions.Goals as goal

pub returns : goal.returns
returns c = record { enough = conditions_fit; kept = parts_keep }
