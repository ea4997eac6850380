use Rattle.std.proofs.Common.{subst}
use Rattle.std.proofs.lemmas.Result.{IfOk-weaker}
use Rattle.policy_lawful.specs.Lawful.{IsLawful}
use Rattle.policy_lawful.specs.Resolution.{source_of}
use Rattle.policy_lawful.proofs.KeptRules.{rules_of}
use Rattle.region_alloc.proofs.Apart.{placed_so}
use Rattle.region_alloc.proofs.Sized.{blocks_end, no_room_is, placement_is, regions_sized}
use Rattle.region_alloc.proofs.allocate.addresses_of.Goals as goal

pub addresses_in-requires-clause-blocks : goal.addresses_in-requires-clause-blocks
addresses_in-requires-clause-blocks c =
    rw (c.memory_blocks.ensures, c.resolved-policy.ensures.value) (blocks_end c.lawful.result.now c.resolved-policy.ensures.lawful)

pub addresses_in-requires-clause-regions : goal.addresses_in-requires-clause-regions
addresses_in-requires-clause-regions c =
    let lawful : IsLawful (source_of c.args.expanded.now.lawful) = subst (λ r. IsLawful (source_of r)) c.lawful.ensures c.resolved-policy.ensures.lawful in
    rw c.regions.ensures.regions (regions_sized (source_of c.args.expanded.now.lawful) (rules_of lawful).rule_4)

pub returns-clause-ok : goal.returns-clause-ok
returns-clause-ok c =
    rw placement_is
    (rw (c.memory_blocks.ensures, c.resolved-policy.ensures.value, c.lawful.ensures, c.regions.ensures.regions) at c.addresses_in.ensures.ok)

pub returns-clause-placed : goal.returns-clause-placed
returns-clause-placed c =
    IfOk-weaker c.addresses_in.result _ _ (λ addresses is. placed_so c.args.expanded.now addresses c.regions.ensures.expanded is)
    (rw placement_is
    (rw (c.memory_blocks.ensures, c.resolved-policy.ensures.value, c.lawful.ensures, c.regions.ensures.regions) at c.addresses_in.ensures.ok))

pub returns-clause-err : goal.returns-clause-err
returns-clause-err c =
    rw no_room_is
    (rw (c.memory_blocks.ensures, c.resolved-policy.ensures.value, c.lawful.ensures, c.regions.ensures.regions) at c.addresses_in.ensures.err)
