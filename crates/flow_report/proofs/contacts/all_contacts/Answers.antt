use Rattle.std.proofs.Common.{◌∷◌, [], ◌++◌, sym, ◌∙◌}
use Rattle.flow_report.specs.ByIndex.{contacts_of}
use Rattle.flow_report.proofs.ContactsByIndex.{numbered_read}
use Rattle.muen_num.proofs.Lists.{read_at}
use Rattle.flow_report.proofs.contacts.all_contacts.Goals as goal

pub make_contacts-requires : goal.make_contacts-requires
make_contacts-requires c =
    read_at c.args.policy.now.subjects _ c.loop-index.index c.subject-item.result c.subjects-subject-items.ensures.value c.loop-index-test.true c.subject-item.is

pub loop-index-preserved : goal.loop-index-preserved
loop-index-preserved c =
    c.in_ok-push.ensures.items
    ∙ (λ i. c.loop-index.invariant i ++ c.in_ok-make_contacts.ensures i ∷ [])
    ∙ sym (numbered_read (contacts_of c.args.policy.now) c.args.policy.now.subjects _ c.loop-index.index c.subject-item.result c.subjects-subject-items.ensures.value c.loop-index-test.true c.subject-item.is)
