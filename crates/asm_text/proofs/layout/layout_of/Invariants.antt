use Rattle.std.proofs.Common.{◌≡◌, ◌+◌, ◌≤◌, length}
use Rattle.text_words.specs.Parts.{lines_of}
use Rattle.asm_text.specs.Layout.{at_start, layout_from}
use Rattle.asm_text.specs.Placing.{layout_standing_of}
use Rattle.asm_text.proofs.LayoutLaws.{behind}
use Rattle.asm_text.proofs.layout.layout_of.Given as goal

abbrev pub invariant-loop-rest : goal.invariant-loop-rest
invariant-loop-rest l = record {
  same : behind l.lines (layout_from (layout_standing_of l.standing) l.number (lines_of l.rest)) ≡ layout_from at_start 1 (lines_of l.text);
  count : l.number + length l.rest ≤ length l.text + 1;
}

abbrev pub decreases-loop-rest : goal.decreases-loop-rest
decreases-loop-rest l = length l.rest
