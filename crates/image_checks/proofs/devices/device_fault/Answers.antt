use Rattle.std.proofs.Common.{◌≡◌, subst, sym, length, List}
use Rattle.image_checks.proofs.DevicesTold.{few_windows, same_devices}
use Rattle.image_checks.proofs.SpansOfNumbers.{as_many}
use Rattle.image_checks.proofs.devices.device_fault.Goals as goal
use Rattle.image_checks.specs.PlanFault.{IsFirstDifference}
use Rattle.image_pack.specs.declared.parts.Image.{Image}
use Rattle.image_soundness.specs.Sound.{IsDeviceOf}
use Rattle.policy_lawful.specs.Lawful.{IsLawful}
use Rattle.policy_lawful.specs.Resolution.{Resolution, source_of}
use Rattle.policy_lawful.specs.source.Device.{Device}

pub devices-requires : goal.devices-requires
devices-requires c =
    few_windows c.args.expanded.now.lawful (subst (λ (r : Resolution). IsLawful (source_of r)) c.lawful-lawful.ensures c.resolved-policy.ensures.lawful)

pub first_other-requires-clause-contents : goal.first_other-requires-clause-contents
first_other-requires-clause-contents c =
    subst (λ (i : Image). length i.contents ≡ length i.spans) (sym c.image.ensures.same) (as_many c.args.parts.now c.image.ensures.parts)

pub returns : goal.returns
returns c =
    let r = c.args.expanded.now.lawful in
    let i = c.args.parts.now in
    subst (λ (ds : List Device). IsFirstDifference (IsDeviceOf (source_of r) i) ds i.devices c.first_other.result) (same_devices r)
    (subst (λ (x : Image). IsFirstDifference (IsDeviceOf (source_of r) x) r.devices x.devices c.first_other.result) c.image.ensures.same
    (subst (λ (x : Resolution). IsFirstDifference (IsDeviceOf (source_of x) c.image.result.now) x.devices c.image.result.now.devices c.first_other.result) c.lawful-lawful.ensures c.first_other.ensures))
