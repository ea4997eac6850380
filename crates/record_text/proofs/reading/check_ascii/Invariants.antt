use Rattle.std.proofs.Common.{◌≡◌, ◌+◌, ◌≤◌, length}
use Rattle.record_text.specs.Reading.{all_ascii}
use Rattle.text_words.specs.Parts.{lines_of}
use Rattle.record_text.proofs.reading.check_ascii.Given as goal

abbrev pub invariant-loop-rest : goal.invariant-loop-rest
invariant-loop-rest l = record {
  same : all_ascii l.number (lines_of l.rest) ≡ all_ascii 1 (lines_of l.bytes);
  count : l.number + length l.rest ≤ length l.bytes + 1;
}

abbrev pub decreases-loop-rest : goal.decreases-loop-rest
decreases-loop-rest l = length l.rest
