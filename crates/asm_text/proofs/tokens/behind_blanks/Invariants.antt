use Rattle.std.proofs.Common.{◌≡◌, ◌≤◌, length}
use Rattle.asm_text.specs.Tokens.{tokens_of}
use Rattle.asm_text.proofs.tokens.behind_blanks.Given as goal

abbrev pub invariant-loop-c : goal.invariant-loop-c
invariant-loop-c l = record {
  same : tokens_of l.rest ≡ tokens_of l.line;
  within : length l.rest ≤ length l.line;
}

abbrev pub decreases-loop-c : goal.decreases-loop-c
decreases-loop-c l = length l.rest
