-- What is known while the events are gone through.
use Rattle.image_emit.specs.Parting.{IsParting}
use Rattle.image_emit.proofs.subjects.subject_parts.Given as goal

abbrev pub invariant-loop-tables : goal.invariant-loop-tables
invariant-loop-tables l = IsParting l.fn.placed l.fn.events l.tables-iterator.rest.items l.parts
