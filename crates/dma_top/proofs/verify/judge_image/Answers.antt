use Rattle.std.proofs.Common.{◌∙◌, Some, ap, subst}
use Rattle.muen_top.specs.Verifying.{IsFound}
use Rattle.policy_lawful.specs.Lawful.{IsLawful}
use Rattle.policy_lawful.specs.Resolution.{source_of}
use Rattle.dma_top.proofs.verify.judge_image.Goals as goal

pub returns-in-Ok-Some-clause-err : goal.returns-in-Ok-Some-clause-err
returns-in-Ok-Some-clause-err c =
    let x = c.in-Ok-expand.expanded in
    let lawful : IsLawful (source_of x.lawful) = subst (λ x. IsLawful (source_of x.lawful)) c.expanded.view_is c.expanded.invariant.0.lawful in
    let found : IsFound c.args.read.parts x.lawful c.args.read.things c.in-Ok-Some.field-0 = λ files bytes held are image. record { image = image; lawful = lawful; held = held; verdict = c.in-Ok-Some.ensures.verdict files are } in
    subst (λ r. IsFound c.args.read.parts r c.args.read.things (Some c.in-Ok-Some.fault)) c.in-Ok-expand.ensures
    (subst (IsFound c.args.read.parts x.lawful c.args.read.things) (c.in-Ok-Some.field-0-is ∙ ap Some c.in-Ok-Some.fault-is) found)
