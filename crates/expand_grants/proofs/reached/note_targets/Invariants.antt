use Rattle.std.proofs.Common.{◌≡◌, ◌++◌, map, take}
use Rattle.expand_grants.specs.Raising.{target_reached}
use Rattle.expand_grants.proofs.reached.note_targets.Given as goal

abbrev pub invariant-loop-target : goal.invariant-loop-target
invariant-loop-target l = l.noted.items ≡ l.initial.noted.items ++ map (target_reached l.index) (take l.target-index l.targets)
