use Rattle.std.proofs.Common.{◌≡◌, [], drop}
use Rattle.muen_num.specs.Search.{first_in}
use Rattle.rules_events.specs.Monitors.{AreMarks, monitors_offence}
use Rattle.rules_events.proofs.monitoring.of_subjects.Given as goal

abbrev pub invariant-loop-subject : goal.invariant-loop-subject
invariant-loop-subject l = record {
  clear : AreMarks l.marks [];
  rest : first_in (monitors_offence l.initial.subjects) (drop l.subject-index l.subjects) ≡ first_in (monitors_offence l.initial.subjects) l.subjects;
}
