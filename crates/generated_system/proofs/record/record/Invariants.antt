use Rattle.std.proofs.Common.{◌≡◌}
use Rattle.std.specs.List.{flat_map}
use Rattle.muen_num.specs.Range.{numbers_below}
use Rattle.generated_system.specs.RecordText.{lines_in, with_line_feed}
use Rattle.generated_system.proofs.record.record.Given as goal

abbrev pub invariant-loop-j : goal.invariant-loop-j
invariant-loop-j l = l.text.items ≡ flat_map with_line_feed (flat_map (lines_in l.number) (numbers_below l.j))
