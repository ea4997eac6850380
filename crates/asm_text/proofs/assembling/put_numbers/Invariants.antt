use Rattle.std.proofs.Common.{◌≡◌, drop}
use Rattle.asm_text.specs.Appended.{of_numbers}
use Rattle.asm_text.specs.Meaning.{numbers_of}
use Rattle.asm_text.proofs.assembling.put_numbers.Given as goal

abbrev pub invariant-loop-value : goal.invariant-loop-value
invariant-loop-value l =
    of_numbers l.out.items l.size (numbers_of l.names.entries l.size (drop l.value-index l.values)) ≡ of_numbers l.fn.out.items l.size (numbers_of l.names.entries l.size l.values)
