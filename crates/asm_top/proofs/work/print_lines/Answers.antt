use Rattle.std.proofs.Common.{refl, option_map}
use Rattle.asm_listing.specs.Listing.{listing_of}
use Rattle.asm_top.specs.Answers.{plan_of}
use Rattle.asm_top.specs.Commands.{lines}
use Rattle.asm_top.specs.Refusals.{assembler}
use Rattle.command_shell.specs.Answers.{prints}
use Rattle.command_shell.proofs.Ending.{printed, stopped}
use Rattle.asm_top.proofs.work.print_lines.Goals as goal

pub returns-in-Ok : goal.returns-in-Ok
returns-in-Ok g c =
    printed assembler (plan_of (lines (option_map (λ name. name.now) c.args.names) c.args.source.now c.args.base)) _ _ _ _ c.read_source.ensures.held _ _ (listing_of c.args.base c.in-Ok.bytes.items)
    (c.in-Ok.ensures.ok (λ bytes. prints (listing_of c.args.base bytes))) _ (rw c.deref.ensures.value at c.put_lines.ensures)

pub returns-in-Err : goal.returns-in-Err
returns-in-Err g c =
    stopped assembler (plan_of (lines (option_map (λ name. name.now) c.args.names) c.args.source.now c.args.base)) _ _ _ _ c.read_source.ensures.held _ _ refl c.in-Err.error
    (c.in-Err.ensures.err (λ bytes. prints (listing_of c.args.base bytes)))
