use Rattle.policy_names.proofs.SubjectAtIndexes.{signals_resolved}
use Rattle.policy_names.proofs.subjects.resolve_signals.Goals as goal

pub returns : goal.returns
returns c =
    let scope = c.args.scope.now in
    signals_resolved scope.source.now c.args.subject.now _ _ _
    (rw (scope.events_are, c.items.ensures) at c.in_ok-sources.ensures)
    (rw (scope.events_are, c.items-2.ensures) at c.in_ok-targets.ensures)
    (rw (scope.subjects_are, c.items-3.ensures) at c.in_ok-monitors.ensures)
