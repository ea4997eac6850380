use Rattle.std.proofs.Common.{arith}
use Rattle.muen_outside.proofs.Puts.{puts_exit, failed_line}
use Rattle.muen_outside.proofs.pieces.put_pieces.Goals as goal

pub returns-in_err-put : goal.returns-in_err-put
returns-in_err-put g c =
    puts_exit _ _ _ _ c.from_residual.ensures.0
    (failed_line (λ p. p.now) c.args.pieces.now c.loop-piece.piece-index _ _ _ _ _ c.loop-piece.invariant c.in_err-put.ensures (omega arith) c.as_bytes.ensures.value)
