use Rattle.std.proofs.Common.{◌≡◌, take}
use Rattle.std.specs.List.{flat_map}
use Rattle.rules_devices.specs.Domains.{domain_devices}
use Rattle.rules_devices.proofs.listed.devices_of.Given as goal

abbrev pub invariant-loop-domain : goal.invariant-loop-domain
invariant-loop-domain l = l.listed.items ≡ flat_map domain_devices (take l.domain-index l.domains)
