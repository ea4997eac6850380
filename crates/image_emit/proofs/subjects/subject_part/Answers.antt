use Rattle.std.proofs.Common.{ap, ◌%◌, ◌∙◌, arith}
use Rattle.image_emit.proofs.subjects.subject_part.Goals as goal

pub eptp-requires-clause-aligned : goal.eptp-requires-clause-aligned
eptp-requires-clause-aligned c = ap (λ at. at % 4096) c.tables_at.ensures ∙ c.requires.few.whole c.args.index c.requires.there

pub eptp-requires-clause-end : goal.eptp-requires-clause-end
eptp-requires-clause-end c = let low = c.requires.few.tables c.args.index c.requires.there in let is = c.tables_at.ensures in omega (arith, low, is)
