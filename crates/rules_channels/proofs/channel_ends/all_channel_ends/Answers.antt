use Rattle.std.proofs.Common.{◌≡◌, ◌<◌, ◌++◌, get_or, length, map, sym, ap, ◌∙◌, subst}
use Rattle.policy_lawful.proofs.SeenAtIndex.{channel_ends_read}
use Rattle.rules_channels.specs.ChannelEnds.{met, met_channel_ends}
use Rattle.rules_channels.specs.Parties.{party}
use Rattle.rules_channels.proofs.NotedItems.{flat_more}
use Rattle.rules_channels.proofs.channel_ends.all_channel_ends.Goals as goal

pub loop-index-preserved : goal.loop-index-preserved
loop-index-preserved c =
    let s = c.subject-item.result in
    let r = c.args.policy.now in
    c.in_ok-note_channel_ends.ensures
    ∙ ap (λ es. c.loop-index.noted.items ++ map (λ e. (e.channel, met (party (c.loop-index.index, s)) e)) es) (c.channel_ends.ensures ∙ channel_ends_read r _ c.loop-index.index s c.subjects-subject-items.ensures.value c.loop-index-test.true c.subject-item.is)
    ∙ ap (λ xs. xs ++ met_channel_ends r (c.loop-index.index, s)) c.loop-index.invariant
    ∙ sym (flat_more (met_channel_ends r) r.subjects c.loop-index.index s
    (subst (λ ss. c.loop-index.index < length ss) c.subjects-subject-items.ensures.value c.loop-index-test.true)
    (subst (λ ss. s ≡ get_or ss c.loop-index.index s) c.subjects-subject-items.ensures.value c.subject-item.is))
