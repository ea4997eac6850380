use Rattle.std.proofs.Common.{arith}
use Rattle.guest_isa.proofs.Spelled.{spelled_by}
use Rattle.guest_isa.proofs.spelling.decode.Goals as goal

pub returns-clause-spelled : goal.returns-clause-spelled
returns-clause-spelled c =
    rw c.instruction.ensures.instruction (spelled_by c.args.b c.of.result (omega arith) c.of.ensures.bytes)
