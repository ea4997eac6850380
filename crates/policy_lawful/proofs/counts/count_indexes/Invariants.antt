use Rattle.std.proofs.Common.{take}
use Rattle.policy_lawful.specs.Counts.{times_among, Adds}
use Rattle.policy_lawful.proofs.counts.count_indexes.Given as goal

abbrev pub invariant-loop-index : goal.invariant-loop-index
invariant-loop-index l = Adds l.initial.times l.times (times_among (take l.index-index l.indexes))
