-- So many were inside.
use Rattle.std.specs.List.{list_any}
use Rattle.rules_extents.specs.Inside.{holds}
use Rattle.rules_extents.proofs.InsideOne.{Counting}
use Rattle.rules_extents.proofs.inside.count_in_any.Given as goal

abbrev pub invariant-loop-index : goal.invariant-loop-index
invariant-loop-index l = Counting (λ e. list_any (holds e) l.blocks) l.extents l.index
