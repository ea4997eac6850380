use Rattle.std.proofs.lemmas.List.{get_or_default}
use Rattle.policy_views.proofs.EntriesNoted.{choices_more, none_yet}
use Rattle.policy_views.proofs.entries.choices.Goals as goal

pub loop-entry-init : goal.loop-entry-init
loop-entry-init c = none_yet c.args.kind _ c.new-choices.ensures.empty

pub loop-entry-preserved : goal.loop-entry-preserved
loop-entry-preserved c =
    choices_more c.args.kind c.loop-entry.choices c.note_entry.new.choices c.args.entries.now c.loop-entry.entry-index _ c.loop-entry.invariant c.in_ok-note_entry.ensures c.loop-entry-test.true (get_or_default c.args.entries.now c.loop-entry.entry-index _ _ c.loop-entry-test.true)
