use Rattle.std.proofs.Common.{◌≡◌, ◌++◌, map, take}
use Rattle.rules_devices.proofs.listed.push_devices.Given as goal

abbrev pub invariant-loop-name : goal.invariant-loop-name
invariant-loop-name l = l.listed.items ≡ l.fn.listed.items ++ map (λ name. record { domain = l.domain.name; name = name }) (take l.name-index l.name-items)
