use Rattle.std.proofs.Common.{rules}
use Rattle.guest_isa.proofs.Spelled.{eight}
use Rattle.guest_isa.proofs.spelling.Fields.of.Goals as goal

pub returns-clause-bytes : goal.returns-clause-bytes
returns-clause-bytes c = eight c.args.b c.word.result (search rules) c.word.ensures.bytes
