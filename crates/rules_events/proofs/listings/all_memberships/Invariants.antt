use Rattle.std.proofs.Common.{◌≡◌, take}
use Rattle.rules_events.specs.Listings.{all_memberships}
use Rattle.rules_events.proofs.listings.all_memberships.Given as goal

abbrev pub invariant-loop-index : goal.invariant-loop-index
invariant-loop-index l = l.noted.items ≡ all_memberships (take l.index l.groups)
