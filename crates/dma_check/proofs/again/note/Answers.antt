use Rattle.std.proofs.Common.{◌≡◌, ◌+◌, ◌-◌, sym, arith}
use Rattle.dma_check.proofs.AgainLaws.{later, noted}
use Rattle.dma_tables.specs.DmaWalk.{root_page}
use Rattle.dma_check.proofs.again.note.Goals as goal

pub returns-in_default : goal.returns-in_default
returns-in_default c = later c.args.file.now c.args.source c.args.earlier.now.items c.requires.earlier

pub returns-then-table-root : goal.returns-then-table-root
returns-then-table-root c = later c.args.file.now c.args.source c.args.earlier.now.items c.requires.earlier

pub returns-else-k-len : goal.returns-else-k-len
returns-else-k-len c = later c.args.file.now c.args.source c.args.earlier.now.items c.requires.earlier

pub returns-then-k-len : goal.returns-then-k-len
returns-then-k-len c =
    let place : root_page c.args.file.now + (c.in-Some.table - c.root_page-root.result) ≡ c.in-Some.table = omega (arith, c.root_page-root.ensures, c.if-table-root.false) in
    noted c.args.file.now c.args.source c.in-Some.table c.args.earlier.now.items (c.in-Some.table - c.root_page-root.result) c.requires.earlier (sym c.in-Some.ensures) place (omega (arith, c.if-k-len.true, c.len.ensures))
