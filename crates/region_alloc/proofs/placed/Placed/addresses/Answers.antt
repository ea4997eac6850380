use Rattle.std.proofs.Common.{subst}
use Rattle.region_alloc.specs.Placed.{AreDisjoint, AreInside, Placement}
use Rattle.region_alloc.proofs.placed.Placed.addresses.Goals as goal

pub returns-clause-inside : goal.returns-clause-inside
returns-clause-inside c =
    rw c.items.ensures (subst (λ (x : Placement). AreInside x.expanded.lawful.memory_blocks x.expanded.regions c.self.inside.addresses) c.self.view_is c.self.invariant.inside)

pub returns-clause-disjoint : goal.returns-clause-disjoint
returns-clause-disjoint c =
    rw c.items.ensures (subst (λ (x : Placement). AreDisjoint x.expanded.regions c.self.inside.addresses) c.self.view_is c.self.invariant.disjoint)
