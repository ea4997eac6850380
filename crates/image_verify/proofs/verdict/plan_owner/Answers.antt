use Rattle.std.proofs.Common.{Some, subst}
use Rattle.image_checks.specs.PlanFault.{IsPlanFault}
use Rattle.image_verify.proofs.Deciding.{device_there, in_zip}
use Rattle.policy_lawful.specs.Resolution.{source_of}
use Rattle.image_verify.proofs.verdict.plan_owner.Goals as goal

pub subject_name-requires : goal.subject_name-requires
subject_name-requires c =
    let h = subst (λ d. IsPlanFault (source_of c.args.policy.now) c.args.image.now (Some d)) c.in-Subject.is c.requires in
    in_zip c.args.policy.now c.args.image.now.subjects c.in-Subject.index h.first.within

pub device_name-requires : goal.device_name-requires
device_name-requires c =
    let h = subst (λ d. IsPlanFault (source_of c.args.policy.now) c.args.image.now (Some d)) c.in-Device.is c.requires in
    device_there c.args.policy.now c.args.image.now c.in-Device.index h.first.there
