use Rattle.std.proofs.Common.{◌≡◌, sym, ap, ◌∙◌, arith}
use Rattle.generated_system.proofs.Lines.{behind_blanks, order_of_one, order_of_two, order_of_three, order_of_four}
use Rattle.generated_system.proofs.record.descending.Goals as goal

pub returns-in-1 : goal.returns-in-1
returns-in-1 c = sym (ap behind_blanks c.in-1.is ∙ order_of_one)

pub returns-in-2 : goal.returns-in-2
returns-in-2 c = sym (ap behind_blanks c.in-2.is ∙ order_of_two)

pub returns-in-3 : goal.returns-in-3
returns-in-3 c = sym (ap behind_blanks c.in-3.is ∙ order_of_three)

pub returns-in_default : goal.returns-in_default
returns-in_default c = let four : c.args.cpus ≡ 4 = omega arith in sym (ap behind_blanks four ∙ order_of_four)
