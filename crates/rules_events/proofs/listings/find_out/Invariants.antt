-- What was found out is right.
use Rattle.rules_events.specs.Listings.{AreKnownPairs}
use Rattle.rules_events.proofs.listings.find_out.Given as goal

abbrev pub invariant-loop-pair : goal.invariant-loop-pair
invariant-loop-pair l = AreKnownPairs l.lists l.known.items
