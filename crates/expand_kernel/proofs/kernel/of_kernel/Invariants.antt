-- What is known while the subjects are gone through.
use Rattle.expand_kernel.proofs.InTurn.{InTurn}
use Rattle.expand_kernel.proofs.kernel.of_kernel.Given as goal

abbrev pub invariant-loop-subject : goal.invariant-loop-subject
invariant-loop-subject l = InTurn l.subjects l.grants l.subject-iterator.a.rest.now l.subject-iterator.b.rest.now l.regions.items
