use Rattle.std.proofs.Common.{◌++◌, sym, ap, ◌∙◌}
use Rattle.rules_events.specs.Listings.{memberships}
use Rattle.rules_channels.proofs.NotedItems.{flat_more}
use Rattle.rules_events.proofs.listings.all_memberships.Goals as goal

pub loop-index-preserved : goal.loop-index-preserved
loop-index-preserved c =
    let g = c.index-groups-index.result in
    c.in_ok-note_members.ensures
    ∙ ap (λ xs. xs ++ memberships (c.loop-index.index, g)) c.loop-index.invariant
    ∙ sym (flat_more memberships c.args.groups.now c.loop-index.index g c.loop-index-test.true c.index-groups-index.is)
