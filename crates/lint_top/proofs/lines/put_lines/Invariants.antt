use Rattle.std.proofs.Common.{take}
use Rattle.muen_outside.specs.Puts.{Appended}
use Rattle.lint_top.specs.Lines.{lines_of}
use Rattle.lint_top.proofs.lines.put_lines.Given as goal

abbrev pub invariant-loop-refusal : goal.invariant-loop-refusal
invariant-loop-refusal g l = Appended (lines_of (take l.refusal-index l.refusals)) (g.S.Sink.state l.initial.out) (g.S.Sink.state l.out)
