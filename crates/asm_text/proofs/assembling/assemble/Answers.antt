use Rattle.asm_text.specs.Layout.{Layout}
use Rattle.asm_text.proofs.Seats.{assembled_by, lines_follow, not_laid_out}
use Rattle.asm_text.proofs.assembling.assemble.Goals as goal

pub bytes_of-requires : goal.bytes_of-requires
bytes_of-requires c =
    let layout : Layout = record { lines = c.in-Ok.layout.lines; names = c.in-Ok.layout.names.entries } in
    lines_follow c.args.text.now layout c.in-Ok.ensures

pub returns-in-Ok : goal.returns-in-Ok
returns-in-Ok c =
    let layout : Layout = record { lines = c.in-Ok.layout.lines; names = c.in-Ok.layout.names.entries } in
    rw (assembled_by c.args.text.now layout c.in-Ok.ensures) at c.bytes_of.ensures

pub returns-in-Err : goal.returns-in-Err
returns-in-Err c = not_laid_out c.args.text.now c.in-Err.fault _ c.in-Err.ensures
