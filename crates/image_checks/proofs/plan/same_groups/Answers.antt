use Rattle.std.proofs.lemmas.Slice.Eq.{slice_eq-Decides}
use Rattle.image_checks.proofs.Equal.{decided, group_tells}
use Rattle.image_checks.proofs.plan.same_groups.Goals as goal

pub returns : goal.returns
returns c = decided _ _ (slice_eq-Decides group_tells _ _ _ c.eq.ensures)
