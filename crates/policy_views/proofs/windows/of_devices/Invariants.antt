use Rattle.std.proofs.Common.{◌≡◌, take}
use Rattle.std.specs.List.{filter_map, flat_map}
use Rattle.policy_lawful.specs.Views.{device_view}
use Rattle.policy_views.proofs.windows.of_devices.Given as goal

abbrev pub invariant-loop-device : goal.invariant-loop-device
invariant-loop-device l = l.views.items ≡ flat_map (λ d. filter_map (device_view l.policy d.device) d.memory) (take l.device-index l.devices)
