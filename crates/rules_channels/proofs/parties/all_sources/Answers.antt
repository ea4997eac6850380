use Rattle.std.proofs.Common.{◌++◌, sym, ap, ◌∙◌}
use Rattle.rules_channels.specs.Parties.{source_parties}
use Rattle.rules_channels.proofs.NotedItems.{flat_more}
use Rattle.rules_channels.proofs.parties.all_sources.Goals as goal

pub loop-index-preserved : goal.loop-index-preserved
loop-index-preserved c =
    let s = c.index-subjects-index.result in
    c.in_ok-note_sources.ensures
    ∙ ap (λ xs. xs ++ source_parties (c.loop-index.index, s)) c.loop-index.invariant
    ∙ sym (flat_more source_parties c.args.subjects.now c.loop-index.index s c.loop-index-test.true c.index-subjects-index.is)
