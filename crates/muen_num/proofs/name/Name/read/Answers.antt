use Rattle.std.proofs.Common.{rules}
use Rattle.muen_num.proofs.Room.{stored, back}
use Rattle.muen_num.proofs.name.Name.read.Goals as goal

pub invariant_of-result : goal.invariant_of-result
invariant_of-result c = stored c.args.text.now (search rules) (search rules) c.padded.result c.padded.ensures

pub returns : goal.returns
returns c = back c.args.text.now c.padded.result c.padded.ensures (search rules)
