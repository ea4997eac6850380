-- No windows of the domains so far share an address.
use Rattle.std.proofs.Common.{◌≡◌, drop}
use Rattle.muen_num.specs.Search.{first_in}
use Rattle.rules_devices.specs.Windows.{overlap_in}
use Rattle.rules_devices.proofs.windows.overlap_of.Given as goal

abbrev pub invariant-loop-domain : goal.invariant-loop-domain
invariant-loop-domain l =
    first_in (overlap_in l.regions.items.now) (drop l.domain-index l.domains) ≡ first_in (overlap_in l.regions.items.now) l.domains
