use Rattle.std.proofs.Common.{◌<◌, ℕ}
use Rattle.image_checks.specs.OwnPages.{SharesWithNone}
use Rattle.image_checks.proofs.own_pages.first_sharing.Given as goal

-- those so far share with none
abbrev pub invariant-loop-index : goal.invariant-loop-index
invariant-loop-index l = (j : ℕ) → j < l.index → SharesWithNone l.parts j
