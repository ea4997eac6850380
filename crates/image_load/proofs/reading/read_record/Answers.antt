use Rattle.std.proofs.Common.{◌≤◌, length, subst, sym}
use Rattle.muen_num.specs.Answers.{Answers}
use Rattle.muen_num.specs.declared.limits.TheConstants.{MOST_DEVICES}
use Rattle.record_text.specs.declared.fault.RecordFault.TheVariants.{NoMemory}
use Rattle.image_pack.specs.declared.parts.Image.{Image}
use Rattle.image_memory.specs.Memory.{AreLow}
use Rattle.image_load.specs.RecordDevices.{HasDevices}
use Rattle.image_load.proofs.Resolved.{read_orderly, same_reading}
use Rattle.image_memory.proofs.Rising.{parts_few, parts_low}
use Rattle.image_load.proofs.reading.read_record.Goals as goal

pub devices_of-requires-clause-low : goal.devices_of-requires-clause-low
devices_of-requires-clause-low c = subst (λ (i : Image). AreLow i.spans) (sym c.image.ensures.same) (parts_low c.args.parts.now c.image.ensures.parts)

pub devices_of-requires-clause-few : goal.devices_of-requires-clause-few
devices_of-requires-clause-few c = subst (λ (i : Image). length i.devices ≤ MOST_DEVICES) (sym c.image.ensures.same) (parts_few c.args.parts.now c.image.ensures.parts)

pub returns-clause-exact : goal.returns-clause-exact
returns-clause-exact c =
    let has = subst (λ (i : Image). HasDevices i c.in_ok-devices.devices) c.image.ensures.same c.in_ok-devices.ensures in
    subst (λ w. Answers NoMemory w c.read.result) (same_reading c.args.parts.now c.in_ok-devices.devices c.args.bytes.now has) c.read.ensures.exact

pub returns-clause-orderly : goal.returns-clause-orderly
returns-clause-orderly c = read_orderly c.in_ok-devices.devices c.read.result c.read.ensures.lawful
