use Rattle.std.proofs.Common.{◌∙◌, sym, arith}
use Rattle.std.specs.Prelude.{option_map}
use Rattle.dma_tables.proofs.ByPages.{goes_by_page, goes_high, parts_aligned}
use Rattle.dma_tables.proofs.Lines.{line_dropped, line_in_one, line_in_two, no_line}
use Rattle.dma_tables.proofs.lowering.line_writes.Goals as goal

pub returns-then-not-is_line : goal.returns-then-not-is_line
returns-then-not-is_line c = c.new.ensures.items ∙ sym (no_line _ c.args.addr c.args.bytes.now (sym c.if-not-is_line.ensures))

pub returns-then-addr-ge-GUEST_END : goal.returns-then-addr-ge-GUEST_END
returns-then-addr-ge-GUEST_END c =
    c.new-then-addr-ge-GUEST_END.ensures.items
    ∙ sym (line_dropped _ c.args.addr c.args.bytes.now (sym c.if-not-is_line.ensures) (goes_high (option_map (λ t. t.now) c.args.tables) c.args.image.now c.args.device c.args.addr c.if-addr-ge-GUEST_END.true))

pub returns-then-bytes-left : goal.returns-then-bytes-left
returns-then-bytes-left c =
    let pages = goes_by_page (option_map (λ t. t.now) c.args.tables) c.args.image.now c.args.device (parts_aligned c.args.image.now c.requires) in
    rw (line_in_one _ pages c.args.addr c.args.bytes.now (sym c.if-not-is_line.ensures) (omega (arith, c.if-bytes-left.true)))
    (rw c.goes-at.ensures at c.one_write.ensures)

pub returns : goal.returns
returns c =
    let pages = goes_by_page (option_map (λ t. t.now) c.args.tables) c.args.image.now c.args.device (parts_aligned c.args.image.now c.requires) in
    rw (line_in_two _ pages c.args.addr c.args.bytes.now (omega (arith, c.if-bytes-left.false)) (sym c.if-not-is_line.ensures))
    (rw (c.goes-at.ensures, c.goes-next.ensures, c.split_at.ensures.front, c.split_at.ensures.back) at c.two_writes.ensures)
