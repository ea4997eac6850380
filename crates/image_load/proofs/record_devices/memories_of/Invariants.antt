-- What is known while the windows are gone through.
use Rattle.std.proofs.Common.{◌≡◌, map, take}
use Rattle.std.specs.List.{flat_map}
use Rattle.std.specs.Option.{option_to_list}
use Rattle.image_load.specs.RecordDevices.{named_memory}
use Rattle.image_load.specs.Resolving.{memory_of_window}
use Rattle.image_load.proofs.record_devices.memories_of.Given as goal

abbrev pub invariant-loop-window : goal.invariant-loop-window
invariant-loop-window l = map named_memory l.memories.items ≡ flat_map (λ w. option_to_list (memory_of_window l.spans w)) (take l.window-index l.windows)
