use Rattle.std.proofs.Common.{refl, ◌∙◌}
use Rattle.expand_grants.specs.Raising.{channel_end_entry}
use Rattle.expand_grants.proofs.Mapped.{pushed_more}
use Rattle.expand_grants.proofs.events.add_channel_ends.Goals as goal

pub loop-end-preserved : goal.loop-end-preserved
loop-end-preserved c =
    c.in_ok-push_some.ensures
    ∙ pushed_more (channel_end_entry c.args.channels.now c.args.readers.now) c.args.entries.now.items c.args.ends.now c.args.ends.now c.loop-end.end-index _ c.loop-end.entries.items c.channel_end_entry.result
    refl c.loop-end-test.true c.loop-end.invariant c.channel_end_entry.ensures
