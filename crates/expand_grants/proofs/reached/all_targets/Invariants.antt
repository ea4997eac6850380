use Rattle.std.proofs.Common.{◌≡◌, take}
use Rattle.expand_grants.specs.Raising.{all_targets}
use Rattle.expand_grants.proofs.reached.all_targets.Given as goal

abbrev pub invariant-loop-index : goal.invariant-loop-index
invariant-loop-index l = l.noted.items ≡ all_targets (take l.index l.subjects)
