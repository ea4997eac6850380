use Rattle.std.proofs.Common.{◌∙◌, ap, arith, get_or, subst, List}
use Rattle.image_checks.proofs.DevicesTold.{device_told}
use Rattle.image_soundness.proofs.DevicesOf.{devices_long}
use Rattle.image_checks.proofs.devices.is_device.Goals as goal
use Rattle.image_pack.specs.declared.parts.DevicePart.{DevicePart}
use Rattle.policy_lawful.specs.Resolution.{IsResolved, Resolution}
use Rattle.policy_lawful.specs.source.Device.{Device}

pub bounds-made-index : goal.bounds-made-index
bounds-made-index c =
    let many = devices_long c.args.lawful.now 0 c.args.lawful.now.devices c.args.made.now c.requires.made in
    let low = c.requires.declared in
    omega (arith, many, low)

pub returns : goal.returns
returns c =
    let same = c.resolved-policy.ensures.value in
    let devices = c.devices.ensures.value ∙ ap (λ (r : Resolution). r.devices) same in
    device_told c.args.lawful.now (subst IsResolved same c.devices.ensures.resolved) c.args.image.now c.args.made.now c.requires.made
    c.args.index c.requires.declared c.requires.there
    c.index-devices-index.result c.index-made-index.result c.index-items-index.result
    (c.index-devices-index.is ∙ ap (λ (ds : List Device). get_or ds c.args.index c.index-devices-index.result) devices)
    c.index-made-index.is
    (c.index-items-index.is ∙ ap (λ (qs : List DevicePart). get_or qs c.args.index c.index-items-index.result) c.items.ensures)
    c.agrees.result c.agrees.ensures
