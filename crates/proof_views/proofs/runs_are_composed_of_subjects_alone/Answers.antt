use Rattle.proof_views.proofs.ComposedRuns.{only_parts, only_run, runs_composed, runs_feed, ticks_composed}
use Rattle.proof_views.proofs.runs_are_composed_of_subjects_alone.Goals as goal

pub returns-clause-run : goal.returns-clause-run
returns-clause-run c = runs_composed

pub returns-clause-ticks : goal.returns-clause-ticks
returns-clause-ticks c = ticks_composed

pub returns-clause-fed : goal.returns-clause-fed
returns-clause-fed c = runs_feed

pub returns-clause-only_run : goal.returns-clause-only_run
returns-clause-only_run c = only_run

pub returns-clause-only_parts : goal.returns-clause-only_parts
returns-clause-only_parts c = only_parts
