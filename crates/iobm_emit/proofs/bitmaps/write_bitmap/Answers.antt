use Rattle.std.proofs.Common.{◌∙◌, ◌+◌, ◌-◌, ap, min, arith}
use Rattle.iobm_emit.proofs.PortLaws.{granted_none, granted_more}
use Rattle.iobm_emit.proofs.bitmaps.write_bitmap.Goals as goal

pub loop-range-init : goal.loop-range-init
loop-range-init c = λ bit l. granted_none c.args.ports.now (c.args.base + bit) _ (c.set_all.ensures bit (omega (arith, c.requires)))

pub loop-range-preserved : goal.loop-range-preserved
loop-range-preserved c =
    λ bit l. granted_more c.args.ports.now c.loop-range.range-index c.args.base bit _ _ _ _ _ c.loop-range-test.true l (c.bit_of-first.ensures ∙ ap (λ port. min (port - c.args.base) 0x8000) c.from.ensures) (c.bit_of-end.ensures ∙ ap (λ port. min (port + 1 - c.args.base) 0x8000) c.from-in-loop-range.ensures) (c.loop-range.invariant bit l) (c.clear_bits.ensures bit)
