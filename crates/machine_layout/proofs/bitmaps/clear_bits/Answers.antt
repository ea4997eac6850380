use Rattle.std.proofs.Common.{arith}
use Rattle.machine_layout.proofs.BitmapLaws.{run_begins, run_more, run_ends}
use Rattle.machine_layout.proofs.bitmaps.clear_bits.Goals as goal

pub loop-bit-init : goal.loop-bit-init
loop-bit-init c = λ n. run_begins _ c.args.first c.args.end n

pub loop-bit-preserved : goal.loop-bit-preserved
loop-bit-preserved c =
    λ n. run_more _ _ _ c.args.first c.loop-bit.bit c.args.end n (omega arith) c.loop-bit-test.true (c.loop-bit.invariant n) (c.clear_bit.ensures n)

pub returns : goal.returns
returns c = λ n. run_ends _ _ c.args.first c.loop-bit.bit c.args.end n c.loop-bit-test.false (c.loop-bit.invariant n)
