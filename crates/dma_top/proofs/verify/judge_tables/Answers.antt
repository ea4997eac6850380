use Rattle.std.proofs.Common.{◌≡◌, ◌∙◌, None, Some, ap, subst, sym}
use Rattle.dma_check.specs.Verdict.{verdict}
use Rattle.policy_lawful.specs.Resolution.{source_of}
use Rattle.dma_top.proofs.TablesJudged.{have_fault, have_no_memory, have_none}
use Rattle.dma_top.proofs.verify.judge_tables.Goals as goal

pub returns-in-Ok-None-clause-ok : goal.returns-in-Ok-None-clause-ok
returns-in-Ok-None-clause-ok g c i parts same =
    let is : c.resolved-policy.result.now ≡ c.args.accepted.now.expanded.lawful = c.resolved-policy.ensures.value ∙ c.lawful.ensures in
    have_none c.args.tables.now _ _ _ c.in_ok-tables.tables c.in_ok-tables.ensures.ok (source_of c.args.accepted.now.expanded.lawful) i
    (subst (λ r. None ≡ verdict (source_of r) i c.in_ok-tables.tables) is (sym c.in-Ok-None.field-0-is ∙ c.in-Ok-None.ensures i parts same))

pub returns-in-Ok-Some-clause-err : goal.returns-in-Ok-Some-clause-err
returns-in-Ok-Some-clause-err g c i parts same =
    let is : c.resolved-policy.result.now ≡ c.args.accepted.now.expanded.lawful = c.resolved-policy.ensures.value ∙ c.lawful.ensures in
    have_fault c.args.tables.now _ _ _ c.in_ok-tables.tables c.in_ok-tables.ensures.ok (source_of c.args.accepted.now.expanded.lawful) i c.in-Ok-Some.fault
    (subst (λ r. Some c.in-Ok-Some.fault ≡ verdict (source_of r) i c.in_ok-tables.tables) is (sym (c.in-Ok-Some.field-0-is ∙ ap Some c.in-Ok-Some.fault-is) ∙ c.in-Ok-Some.ensures i parts same))

pub returns-clause-err : goal.returns-clause-err
returns-clause-err g c i parts same = have_no_memory c.args.tables.now _ _ _ c.in_ok-tables.tables c.in_ok-tables.ensures.ok (source_of c.args.accepted.now.expanded.lawful) i
