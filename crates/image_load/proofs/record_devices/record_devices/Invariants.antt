-- What is known while the devices are gone through.
use Rattle.std.proofs.Common.{take}
use Rattle.std.specs.List.{AllZip}
use Rattle.image_load.specs.RecordDevices.{IsRecordDevice}
use Rattle.image_load.proofs.record_devices.record_devices.Given as goal

abbrev pub invariant-loop-device : goal.invariant-loop-device
invariant-loop-device l = AllZip (IsRecordDevice l.spans) (take l.device-index l.devices) l.made.items
