use Rattle.std.proofs.Common.{length, ap, arith}
use Rattle.std.proofs.lemmas.Slice.Zip.{AllZip-long}
use Rattle.image_load.specs.RecordDevices.{IsRecordDevice}
use Rattle.image_load.proofs.record_devices.devices_of.Goals as goal

pub invariant_of-result : goal.invariant_of-result
invariant_of-result c =
    let long = AllZip-long (IsRecordDevice c.items.result.now) c.items-2.result.now c.in_ok-devices.devices.items c.in_ok-devices.ensures in
    record { few = omega (arith, long, ap length c.of.ensures, ap length c.items-2.ensures, c.requires.few) }
