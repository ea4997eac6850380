use Rattle.std.proofs.Common.{◌≡◌, drop}
use Rattle.asm_text.specs.Meaning.{sum_of}
use Rattle.asm_text.specs.Ranges.{IsMagnitudeWithin}
use Rattle.asm_text.proofs.RangeLaws.{behind}
use Rattle.asm_text.proofs.meaning.sum_of.Given as goal

abbrev pub invariant-loop-term : goal.invariant-loop-term
invariant-loop-term l = record {
  same : behind l.sum (sum_of l.names.entries (drop l.term-index l.terms)) ≡ sum_of l.names.entries l.terms;
  number : IsMagnitudeWithin l.term-index l.sum.number;
  labels : IsMagnitudeWithin l.term-index l.sum.labels;
}
