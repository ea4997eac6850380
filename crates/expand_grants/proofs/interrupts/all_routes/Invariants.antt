use Rattle.std.proofs.Common.{◌≡◌, take}
use Rattle.expand_grants.specs.ByIndex.{all_routes}
use Rattle.expand_grants.proofs.interrupts.all_routes.Given as goal

abbrev pub invariant-loop-index : goal.invariant-loop-index
invariant-loop-index l = l.routes.items ≡ all_routes (take l.index l.subjects)
