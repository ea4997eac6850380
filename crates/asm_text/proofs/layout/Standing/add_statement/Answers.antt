use Rattle.asm_text.proofs.layout.Standing.add_statement.Goals as goal

pub returns-in-Definition : goal.returns-in-Definition
returns-in-Definition c = rw c.in-Definition.is c.add.ensures
