use Rattle.std.proofs.Common.{refl, option_map}
use Rattle.asm_top.specs.Answers.{hex_text, plan_of}
use Rattle.asm_top.specs.Commands.{hex}
use Rattle.asm_top.specs.Refusals.{assembler}
use Rattle.command_shell.specs.Answers.{prints}
use Rattle.command_shell.proofs.Ending.{printed, stopped}
use Rattle.asm_top.proofs.work.print_hex.Goals as goal

pub returns-in-Ok : goal.returns-in-Ok
returns-in-Ok g c =
    printed assembler (plan_of (hex (option_map (λ name. name.now) c.args.names) c.args.source.now)) _ _ _ _ c.read_source.ensures.held _ _ (hex_text c.in-Ok.bytes.items)
    (c.in-Ok.ensures.ok (λ bytes. prints (hex_text bytes))) _ (rw c.deref.ensures.value at c.put_hex.ensures)

pub returns-in-Err : goal.returns-in-Err
returns-in-Err g c =
    stopped assembler (plan_of (hex (option_map (λ name. name.now) c.args.names) c.args.source.now)) _ _ _ _ c.read_source.ensures.held _ _ refl c.in-Err.error
    (c.in-Err.ensures.err (λ bytes. prints (hex_text bytes)))
