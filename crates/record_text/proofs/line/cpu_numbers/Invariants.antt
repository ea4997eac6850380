use Rattle.std.proofs.Common.{◌≡◌, length}
use Rattle.record_text.specs.Remaining.{words_remaining}
use Rattle.record_text.specs.Table.{cpu_numbers}
use Rattle.record_text.proofs.Orders.{with_front}
use Rattle.record_text.proofs.line.cpu_numbers.Given as goal

abbrev pub invariant-loop-word : goal.invariant-loop-word
invariant-loop-word l =
    with_front l.order (cpu_numbers l.cpus (words_remaining l.words)) ≡ cpu_numbers l.cpus (words_remaining l.initial.words)

abbrev pub decreases-loop-word : goal.decreases-loop-word
decreases-loop-word l = length (words_remaining l.words)
