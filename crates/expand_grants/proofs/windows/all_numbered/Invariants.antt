-- What is known while the views are gone through.
use Rattle.std.proofs.Common.{◌≡◌, map, take}
use Rattle.expand_grants.specs.Numbered.{numbered_view}
use Rattle.expand_grants.proofs.windows.all_numbered.Given as goal

abbrev pub invariant-loop-view : goal.invariant-loop-view
invariant-loop-view l = l.windows.items ≡ map (numbered_view l.policy l.subject) (take l.view-index l.views)
