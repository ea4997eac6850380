use Rattle.std.proofs.Common.{◌≡◌, ◌++◌, replicate}
use Rattle.binary_form.proofs.writing.put_zeros.Given as goal

-- so many zeros are written
abbrev pub invariant-loop : goal.invariant-loop
invariant-loop l = l.out.items ≡ l.fn.out.items ++ replicate l.counter 0
