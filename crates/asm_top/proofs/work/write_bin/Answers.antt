use Rattle.std.proofs.Common.{refl, option_map}
use Rattle.asm_top.specs.Answers.{plan_of}
use Rattle.asm_top.specs.Commands.{bin}
use Rattle.asm_top.specs.Refusals.{assembler}
use Rattle.command_shell.specs.Answers.{writes}
use Rattle.command_shell.proofs.Ending.{stopped, wrote_so}
use Rattle.asm_top.proofs.work.write_bin.Goals as goal

pub returns-in-Ok : goal.returns-in-Ok
returns-in-Ok g c out =
    wrote_so assembler (plan_of (bin (option_map (λ name. name.now) c.args.names) c.args.source.now c.args.file.now)) _ _ _ _ _ _ c.read_source.ensures.held out c.args.file.now c.in-Ok.bytes.items
    (c.in-Ok.ensures.ok (λ bytes. writes c.args.file.now bytes)) _ (rw c.deref.ensures.value at c.write_file.ensures)

pub returns-in-Err : goal.returns-in-Err
returns-in-Err g c out =
    stopped assembler (plan_of (bin (option_map (λ name. name.now) c.args.names) c.args.source.now c.args.file.now)) _ _ _ _ c.read_source.ensures.held out out refl c.in-Err.error
    (c.in-Err.ensures.err (λ bytes. writes c.args.file.now bytes))
