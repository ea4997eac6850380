-- What is known while the subjects are gone through.
use Rattle.image_verify.proofs.InTurn.{InTurn}
use Rattle.image_verify.specs.ByNumber.{tables_by_number}
use Rattle.image_verify.proofs.windows.subject_tables.Given as goal

abbrev pub invariant-loop-granted : goal.invariant-loop-granted
invariant-loop-granted l = InTurn l.image (tables_by_number l.expanded.grants l.image) l.granted-iterator.a.rest.now l.granted-iterator.b.rest.now l.tables.items
