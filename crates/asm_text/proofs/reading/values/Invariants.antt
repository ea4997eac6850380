use Rattle.std.proofs.Common.{◌≡◌, length}
use Rattle.asm_text.specs.Tokens.{tokens_of}
use Rattle.asm_text.proofs.ValueLaws.{all_values, before}
use Rattle.asm_text.proofs.reading.values.Given as goal

abbrev pub invariant-loop-value : goal.invariant-loop-value
invariant-loop-value l = before l.values (all_values (tokens_of l.rest)) ≡ all_values (tokens_of l.line)

abbrev pub decreases-loop-value : goal.decreases-loop-value
decreases-loop-value l = length l.rest
