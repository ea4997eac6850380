use Rattle.std.proofs.Common.{◌≡◌, ◌++◌, map, take}
use Rattle.rules_devices.proofs.listed.push_regions.Given as goal

abbrev pub invariant-loop-window : goal.invariant-loop-window
invariant-loop-window l = l.listed.items ≡ l.fn.listed.items ++ map (λ m. record { domain = l.domain.name; name = m.region }) (take l.window-index l.window-items)
