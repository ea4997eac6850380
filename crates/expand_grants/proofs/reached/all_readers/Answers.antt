use Rattle.std.proofs.Common.{◌∙◌, ◌++◌, ap}
use Rattle.std.specs.List.{filter_map, list_all}
use Rattle.expand_grants.specs.Raising.{fits_channel_end, reader_reached}
use Rattle.expand_grants.proofs.SeenReaders.{ends_fit, readers_more}
use Rattle.expand_grants.proofs.reached.all_readers.Goals as goal

pub note_readers-requires : goal.note_readers-requires
note_readers-requires c =
    ap (list_all fits_channel_end) c.channel_ends.ensures
    ∙ ends_fit c.args.policy.now _ c.loop-index.index c.subjects-index-end.ensures.value c.loop-index-test.true c.requires

pub loop-index-preserved : goal.loop-index-preserved
loop-index-preserved c =
    readers_more c.args.policy.now _ c.loop-index.index c.subjects-index-end.ensures.value c.loop-index-test.true c.loop-index.noted.items _ c.loop-index.invariant
    (c.in_ok-note_readers.ensures ∙ ap (λ es. c.loop-index.noted.items ++ filter_map (λ e. reader_reached c.loop-index.index e e.role) es) c.channel_ends.ensures)
