-- The choices by the entries so far.
use Rattle.std.proofs.Common.{take}
use Rattle.policy_views.specs.Entries.{HasChoices}
use Rattle.policy_views.proofs.entries.choices.Given as goal

abbrev pub invariant-loop-entry : goal.invariant-loop-entry
invariant-loop-entry l = HasChoices l.kind l.choices (take l.entry-index l.entries)
