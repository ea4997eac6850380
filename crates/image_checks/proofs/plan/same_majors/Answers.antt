use Rattle.std.proofs.lemmas.Slice.Eq.{slice_eq-Decides}
use Rattle.image_checks.proofs.Equal.{decided, major_tells}
use Rattle.image_checks.proofs.plan.same_majors.Goals as goal

pub returns : goal.returns
returns c = decided _ _ (slice_eq-Decides major_tells _ _ _ c.eq.ensures)
