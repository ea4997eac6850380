use Rattle.std.proofs.Common.{refl, ◌∙◌}
use Rattle.expand_grants.specs.Raising.{reader_reached}
use Rattle.expand_grants.proofs.Mapped.{pushed_more}
use Rattle.expand_grants.proofs.reached.note_readers.Goals as goal

pub loop-end-preserved : goal.loop-end-preserved
loop-end-preserved c =
    c.in_ok-push_some.ensures
    ∙ pushed_more (λ e. reader_reached c.args.index e e.role) c.args.noted.now.items c.args.ends.now c.args.ends.now c.loop-end.end-index _ c.loop-end.noted.items c.reader_reached.result
    refl c.loop-end-test.true c.loop-end.invariant c.reader_reached.ensures
