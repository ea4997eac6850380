use Rattle.std.proofs.Common.{◌≡◌, drop}
use Rattle.muen_num.specs.Search.{first_in}
use Rattle.rules_events.specs.Vectors.{vector_offence}
use Rattle.rules_events.proofs.interrupts.first_vector.Given as goal

abbrev pub invariant-loop-index : goal.invariant-loop-index
invariant-loop-index l = first_in (vector_offence l.policy) (drop l.index l.policy.subjects) ≡ first_in (vector_offence l.policy) l.policy.subjects
