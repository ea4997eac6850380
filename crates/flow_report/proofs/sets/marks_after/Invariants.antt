use Rattle.std.proofs.Common.{◌≡◌}
use Rattle.flow_report.specs.Marks.{after_rounds}
use Rattle.flow_report.proofs.sets.marks_after.Given as goal

abbrev pub invariant-loop : goal.invariant-loop
invariant-loop l = l.marks.items ≡ after_rounds l.rows l.fn.start.items l.counter
