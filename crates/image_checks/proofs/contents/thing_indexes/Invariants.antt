use Rattle.std.proofs.Common.{◌≡◌, ◌<◌, All, length}
use Rattle.std.specs.List.{filter_map}
use Rattle.image_checks.specs.Contents.{thing_index}
use Rattle.muen_num.specs.Range.{numbers_below}
use Rattle.image_checks.proofs.contents.thing_indexes.Given as goal

-- those of the numbers so far
abbrev pub invariant-loop-number : goal.invariant-loop-number
invariant-loop-number l =
    record {
      value : l.indexes.items ≡ filter_map (thing_index l.spans) (numbers_below l.number);
      within : All (λ k. k < length l.spans) l.indexes.items;
    }
