-- No name so far stood before, and each is one of the names.
use Rattle.std.proofs.Common.{◌≡◌, [], drop, take}
use Rattle.muen_num.specs.Search.{first_after}
use Rattle.policy_rules.specs.Writers.{not_shared}
use Rattle.policy_rules.proofs.writers.first_not_shared.Given as goal

abbrev pub invariant-loop-name : goal.invariant-loop-name
invariant-loop-name l = record {
  same : l.before ≡ take l.name-index l.list;
  rest : first_after (not_shared l.names l.region) (take l.name-index l.list) (drop l.name-index l.list) ≡ first_after (not_shared l.names l.region) [] l.list;
}
