use Rattle.std.proofs.Common.{◌≡◌, take}
use Rattle.std.specs.List.{flat_map}
use Rattle.rules_devices.specs.Domains.{domain_regions}
use Rattle.rules_devices.proofs.listed.regions_of.Given as goal

abbrev pub invariant-loop-domain : goal.invariant-loop-domain
invariant-loop-domain l = l.listed.items ≡ flat_map domain_regions (take l.domain-index l.domains)
