use Rattle.std.proofs.Common.{◌≡◌, length}
use Rattle.muen_num.specs.Numbers.{are_distinct}
use Rattle.record_text.proofs.made.are_distinct.Given as goal

abbrev pub invariant-loop-rest : goal.invariant-loop-rest
invariant-loop-rest l = are_distinct l.rest ≡ are_distinct l.numbers

abbrev pub decreases-loop-rest : goal.decreases-loop-rest
decreases-loop-rest l = length l.rest
