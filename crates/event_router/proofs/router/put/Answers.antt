use Rattle.event_router.specs.Vectors.{with_vector}
use Rattle.event_router.proofs.Ends.{seen_change, seen_past}
use Rattle.event_router.proofs.router.put.Goals as goal

pub returns-then-subject-sets : goal.returns-then-subject-sets
returns-then-subject-sets c =
    seen_change (λ s. s.marks) (with_vector c.args.vector) c.args.subject c.args.sets.now c.index-sets-subject.result c.with.result c.if-subject-sets.true c.with.ensures

pub returns-else-subject-sets : goal.returns-else-subject-sets
returns-else-subject-sets c = seen_past (λ s. s.marks) (with_vector c.args.vector) c.args.subject c.args.sets.now c.if-subject-sets.false
