use Rattle.std.proofs.Common.{arith}
use Rattle.event_router.proofs.Ends.{none_in_no_marks}
use Rattle.event_router.proofs.vectors.VectorSet.new.Goals as goal

pub invariant_of-result : goal.invariant_of-result
invariant_of-result c = record { in_range = omega arith; none_from_end = λ v le. none_in_no_marks 256 v }
