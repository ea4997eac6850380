use Rattle.std.proofs.Common.{◌≡◌, ◌+◌, ◌≤◌, length}
use Rattle.record_text.specs.Bench.{bench_of}
use Rattle.record_text.specs.Made.{IsInOrder, grown, standing_of}
use Rattle.record_text.specs.Resolving.{resolved}
use Rattle.record_text.specs.Reading.{at_start, record_after}
use Rattle.text_words.specs.Steps.{mapped}
use Rattle.text_words.specs.Parts.{lines_of}
use Rattle.record_text.proofs.reading.read_lines.Given as goal

abbrev pub invariant-loop-rest : goal.invariant-loop-rest
invariant-loop-rest l = record {
  same : grown l.devices l.made (record_after (bench_of l.devices) (standing_of l.made) l.number (lines_of l.rest))
      ≡ mapped (resolved l.devices) (record_after (bench_of l.devices) at_start 1 (lines_of l.bytes));
  order : IsInOrder l.made;
  count : l.number + length l.rest ≤ length l.bytes + 1;
}

abbrev pub decreases-loop-rest : goal.decreases-loop-rest
decreases-loop-rest l = length l.rest
