use Rattle.std.proofs.Common.{◌≡◌, take, drop}
use Rattle.muen_num.specs.Search.{first_after}
use Rattle.rules_events.specs.Monitors.{AreMarks, monitor_offence_after, monitors_offence}
use Rattle.rules_events.proofs.monitoring.of_monitors.Given as goal

abbrev pub invariant-loop-monitor : goal.invariant-loop-monitor
invariant-loop-monitor l = record {
  marks : AreMarks l.marks (take l.monitor-index l.subject.monitors);
  rest : first_after (monitor_offence_after l.subjects l.subject) (take l.monitor-index l.subject.monitors) (drop l.monitor-index l.subject.monitors) ≡ monitors_offence l.subjects l.subject;
}
