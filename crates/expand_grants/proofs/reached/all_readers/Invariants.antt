use Rattle.std.proofs.Common.{◌≡◌, take}
use Rattle.std.specs.List.{enumerate_from, flat_map}
use Rattle.expand_grants.specs.Raising.{subject_readers}
use Rattle.expand_grants.proofs.reached.all_readers.Given as goal

abbrev pub invariant-loop-index : goal.invariant-loop-index
invariant-loop-index l = l.noted.items ≡ flat_map (subject_readers l.policy) (enumerate_from 0 (take l.index l.policy.subjects))
