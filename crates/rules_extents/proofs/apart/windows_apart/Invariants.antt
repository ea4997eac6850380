-- No windows of the subjects so far share an address.
use Rattle.std.proofs.Common.{◌≡◌, drop}
use Rattle.muen_num.specs.Search.{first_in}
use Rattle.rules_extents.specs.Parted.{AreProvided}
use Rattle.rules_extents.specs.Windows.{overlap_in_subject}
use Rattle.rules_extents.proofs.apart.windows_apart.Given as goal

abbrev pub invariant-loop-index : goal.invariant-loop-index
invariant-loop-index l = record {
  rest : first_in (overlap_in_subject l.policy) (drop l.index l.policy.subjects) ≡ first_in (overlap_in_subject l.policy) l.policy.subjects;
  provided : AreProvided l.provided.items l.policy.components;
}
