use Rattle.std.proofs.Common.{refl}
use Rattle.asm_listing.specs.Source.{source_of}
use Rattle.asm_top.specs.Answers.{plan_of}
use Rattle.asm_top.specs.Commands.{text}
use Rattle.asm_top.specs.Refusals.{assembler}
use Rattle.command_shell.specs.Answers.{answers, prints}
use Rattle.command_shell.proofs.Ending.{not_read, printed, reaches_next, stopped}
use Rattle.muen_num.specs.declared.limits.TheConstants.{COMPONENT_FILE_MOST}
use Rattle.asm_top.proofs.work.print_text.Goals as goal

pub returns-in-Ok : goal.returns-in-Ok
returns-in-Ok g c =
    printed assembler (plan_of (text c.args.file.now)) _ _ _ _ c.read_file.ensures.held _ _ (source_of c.in-Ok.bytes)
    (reaches_next assembler.name _ c.args.file.now COMPONENT_FILE_MOST (λ bytes. answers (prints (source_of bytes))) _ _ c.in-Ok.bytes c.in-Ok.ensures.ok) _ (rw c.items.ensures at c.put_text.ensures)

pub returns-in-Err : goal.returns-in-Err
returns-in-Err g c =
    stopped assembler (plan_of (text c.args.file.now)) _ _ _ _ c.read_file.ensures.held _ _ refl c.in-Err.error
    (not_read assembler c.args.file.now COMPONENT_FILE_MOST (λ bytes. answers (prints (source_of bytes))) _ _ _ c.in-Err.error c.in-Err.ensures.err)
