use Rattle.std.proofs.Common.{◌≡◌, ◌+◌, ◌*◌, ◌≤◌, ◌++◌, take}
use Rattle.std.specs.List.{flat_map}
use Rattle.asm_listing.specs.Source.{part_text}
use Rattle.asm_listing.proofs.spelling.append_parts.Given as goal

abbrev pub invariant-loop-part : goal.invariant-loop-part
invariant-loop-part l =
    (l.end ≤ l.at + 13 * l.part-index)
    × (take l.end l.out ≡ take l.at l.fn.out ++ flat_map (part_text l.i) (take l.part-index l.parts))
