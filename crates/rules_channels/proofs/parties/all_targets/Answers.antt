use Rattle.std.proofs.Common.{◌++◌, sym, ap, ◌∙◌}
use Rattle.rules_channels.specs.Parties.{target_parties}
use Rattle.rules_channels.proofs.NotedItems.{flat_more}
use Rattle.rules_channels.proofs.parties.all_targets.Goals as goal

pub loop-index-preserved : goal.loop-index-preserved
loop-index-preserved c =
    let s = c.index-subjects-index.result in
    c.in_ok-note_targets.ensures
    ∙ ap (λ xs. xs ++ target_parties (c.loop-index.index, s)) c.loop-index.invariant
    ∙ sym (flat_more target_parties c.args.subjects.now c.loop-index.index s c.loop-index-test.true c.index-subjects-index.is)
