use Rattle.std.proofs.Common.{◌≡◌, take}
use Rattle.rules_events.specs.Directions.{parties_of}
use Rattle.rules_events.proofs.directions.parties_of.Given as goal

abbrev pub invariant-loop-list : goal.invariant-loop-list
invariant-loop-list l = l.parties.items ≡ parties_of (take l.list-index l.lists)
