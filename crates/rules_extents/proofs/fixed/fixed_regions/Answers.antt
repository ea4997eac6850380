use Rattle.rules_extents.proofs.FixedByExtent.{inside_within}
use Rattle.rules_extents.proofs.fixed.fixed_regions.Goals as goal

pub first_fault-requires : goal.first_fault-requires
first_fault-requires c =
    rw (c.deref-3.ensures.value, c.in_ok-inside.ensures, c.deref-2.ensures.value) (inside_within _ c.in_ok-extents.extents.items)
