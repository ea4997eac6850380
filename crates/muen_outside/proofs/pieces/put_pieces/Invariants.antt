use Rattle.std.proofs.Common.{take}
use Rattle.muen_outside.specs.Pieces.{joined}
use Rattle.muen_outside.specs.Puts.{Appended}
use Rattle.muen_outside.proofs.pieces.put_pieces.Given as goal

abbrev pub invariant-loop-piece : goal.invariant-loop-piece
invariant-loop-piece g l =
    Appended (joined (take l.piece-index l.pieces)) (g.S.Sink.state l.initial.out) (g.S.Sink.state l.out)
