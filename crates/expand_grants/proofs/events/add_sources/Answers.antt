use Rattle.std.proofs.Common.{refl, ◌∙◌}
use Rattle.expand_grants.specs.Raising.{source_entry}
use Rattle.expand_grants.proofs.Mapped.{pushed_more}
use Rattle.expand_grants.proofs.events.add_sources.Goals as goal

pub loop-source-preserved : goal.loop-source-preserved
loop-source-preserved c =
    c.in_ok-push_some.ensures
    ∙ pushed_more (source_entry c.args.events.now c.args.targets.now) c.args.entries.now.items c.args.sources.now c.args.sources.now c.loop-source.source-index _ c.loop-source.entries.items c.source_entry.result
    refl c.loop-source-test.true c.loop-source.invariant c.source_entry.ensures
