use Rattle.std.proofs.Common.{◌≡◌, ◌+◌, ◌++◌, length, map}
use Rattle.std.specs.List.Sorted.{IsPermutation}
use Rattle.machine_layout.specs.Exits.{area_index}
use Rattle.muen_num.specs.Range.{numbers_below}
use Rattle.image_checks.proofs.areas.has_each.Given as goal

-- the entries so far and what is left are what is granted, in some order
abbrev pub invariant-loop-entry : goal.invariant-loop-entry
invariant-loop-entry l =
    record {
      many : length l.left.items + l.entry ≡ l.count;
      moved : IsPermutation (map (area_index l.area) (numbers_below l.entry) ++ l.left.items) l.fn.granted.items;
    }
