use Rattle.std.proofs.Common.{arith}
use Rattle.guest_isa.proofs.Spelled.{word_bytes}
use Rattle.guest_isa.proofs.spelling.word.Goals as goal

pub returns-clause-bytes : goal.returns-clause-bytes
returns-clause-bytes c =
    rw c.from_le_bytes.ensures (word_bytes c.args.a c.args.b c.args.c c.args.d (omega arith) (omega arith) (omega arith) (omega arith))
