use Rattle.std.proofs.Common.{◌≡◌, ◌≤◌, length}
use Rattle.asm_text.specs.Reading.{signed_terms}
use Rattle.asm_text.specs.Tokens.{tokens_of}
use Rattle.asm_text.proofs.TermLaws.{before}
use Rattle.asm_text.proofs.reading.signed_terms.Given as goal

abbrev pub invariant-loop-minus : goal.invariant-loop-minus
invariant-loop-minus l = record {
  same : before l.terms (signed_terms (tokens_of l.rest)) ≡ before l.fn.front (signed_terms (tokens_of l.line));
  within : length l.rest ≤ length l.line;
}

abbrev pub decreases-loop-minus : goal.decreases-loop-minus
decreases-loop-minus l = length l.rest
