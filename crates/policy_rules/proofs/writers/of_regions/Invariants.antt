-- Nothing is wrong with the regions so far.
use Rattle.std.proofs.Common.{◌≡◌, drop}
use Rattle.std.specs.List.{enumerate_from}
use Rattle.muen_num.specs.Search.{first_in}
use Rattle.policy_rules.specs.Writers.{region_users_fault}
use Rattle.policy_rules.proofs.writers.of_regions.Given as goal

abbrev pub invariant-loop-index : goal.invariant-loop-index
invariant-loop-index l = first_in (region_users_fault l.users) (enumerate_from l.index (drop l.index l.regions)) ≡ first_in (region_users_fault l.users) (enumerate_from 0 l.regions)
