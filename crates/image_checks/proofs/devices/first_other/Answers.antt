use Rattle.std.proofs.Common.{◌∙◌, ap, arith, below_more, length, List}
use Rattle.image_checks.proofs.Places.{differs_behind, differs_there, of_places}
use Rattle.image_checks.proofs.devices.first_other.Goals as goal
use Rattle.image_checks.specs.PlanFault.{AgreesAt}
use Rattle.image_soundness.specs.Sound.{IsDeviceOf}
use Rattle.policy_lawful.specs.Resolution.{Resolution, source_of}
use Rattle.policy_lawful.specs.source.Device.{Device}

pub returns-then-not-is_device : goal.returns-then-not-is_device
returns-then-not-is_device c =
    let declared = ap (λ (ds : List Device). length ds) (c.devices-declared.ensures.value ∙ ap (λ (r : Resolution). r.devices) c.resolved.ensures.value) in
    let there = c.len-there.ensures in
    let both = c.min-both.ensures in
    let low = c.loop-index-test.true in
    differs_there (IsDeviceOf (source_of c.args.lawful.now) c.args.image.now) c.args.lawful.now.devices c.args.image.now.devices c.loop-index.index
    (omega (arith, declared, there, both, low)) (omega (arith, declared, there, both, low)) c.loop-index.invariant c.if-not-is_device.ensures

pub loop-index-preserved : goal.loop-index-preserved
loop-index-preserved c =
    below_more (λ j. AgreesAt (IsDeviceOf (source_of c.args.lawful.now) c.args.image.now) c.args.lawful.now.devices c.args.image.now.devices j)
    c.loop-index.index c.loop-index.invariant c.if-not-is_device.ensures

pub returns-then-declared-there : goal.returns-then-declared-there
returns-then-declared-there c =
    let declared = ap (λ (ds : List Device). length ds) (c.devices-declared.ensures.value ∙ ap (λ (r : Resolution). r.devices) c.resolved.ensures.value) in
    let there = c.len-there.ensures in
    let both = c.min-both.ensures in
    let end = c.loop-index-test.false in
    let same = c.if-declared-there.true in
    of_places (IsDeviceOf (source_of c.args.lawful.now) c.args.image.now) c.args.lawful.now.devices c.args.image.now.devices (omega (arith, declared, there, same))
    (λ k l. c.loop-index.invariant k (omega (arith, declared, there, both, same, end, l)))

pub returns-else-declared-there : goal.returns-else-declared-there
returns-else-declared-there c =
    let declared = ap (λ (ds : List Device). length ds) (c.devices-declared.ensures.value ∙ ap (λ (r : Resolution). r.devices) c.resolved.ensures.value) in
    let there = c.len-there.ensures in
    let both = c.min-both.ensures in
    let end = c.loop-index-test.false in
    let other = c.if-declared-there.false in
    differs_behind (IsDeviceOf (source_of c.args.lawful.now) c.args.image.now) c.args.lawful.now.devices c.args.image.now.devices c.min-both.result
    (omega (arith, declared, there, both)) (λ e. other (omega (arith, declared, there, e)))
    (λ j l. c.loop-index.invariant j (omega (arith, end, l)))
