use Rattle.muen_num.proofs.Lists.{read_at}
use Rattle.expand_grants.specs.Grants.{AreGrantsOf}
use Rattle.expand_grants.proofs.LawfulSubjects.{read_kept, zip_more}
use Rattle.expand_grants.proofs.expand.of_subjects.Goals as goal

pub of_subject-requires-clause-at : goal.of_subject-requires-clause-at
of_subject-requires-clause-at c =
    read_at c.args.policy.now.subjects _ c.loop-index.index c.subject-item.result c.subjects-subject-items.ensures.value c.loop-index-test.true c.subject-item.is

pub of_subject-requires-clause-kept : goal.of_subject-requires-clause-kept
of_subject-requires-clause-kept c =
    let subjects = c.subjects-subject-items.ensures in
    read_kept c.args.policy.now subjects.resolved c.requires.lawful _ c.loop-index.index c.subject-item.result subjects.value c.loop-index-test.true c.subject-item.is

pub loop-index-preserved : goal.loop-index-preserved
loop-index-preserved c =
    zip_more (AreGrantsOf c.args.policy.now) c.args.policy.now.subjects _ c.loop-index.index c.subject-item.result c.loop-index.grants c.push.new.self c.in_ok-of_subject.field-0
    c.subjects-subject-items.ensures.value c.loop-index-test.true c.subject-item.is c.loop-index.invariant c.in_ok-of_subject.ensures c.in_ok-push.ensures.ok
