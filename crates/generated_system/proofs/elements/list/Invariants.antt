use Rattle.std.proofs.Common.{◌≡◌, map}
use Rattle.muen_num.specs.Range.{numbers_below}
use Rattle.serde_json.specs.View.{view}
use Rattle.generated_system.proofs.elements.list.Given as goal

abbrev pub invariant-loop-i : goal.invariant-loop-i
invariant-loop-i g l = map view l.items.items ≡ map (g.E.Element.value l.element) (numbers_below l.i)
