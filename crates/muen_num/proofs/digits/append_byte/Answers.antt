use Rattle.std.proofs.Common.{arith}
use Rattle.muen_num.proofs.HexPairs.{pair_written}
use Rattle.muen_num.proofs.digits.append_byte.Goals as goal

pub returns-clause-text : goal.returns-clause-text
returns-clause-text c =
    pair_written c.args.out.now c.args.at c.args.byte c.from-from.result (omega arith) (omega arith) (omega arith)
