use Rattle.std.proofs.Common.{◌∙◌}
use Rattle.phys_mem.proofs.Spelling.{four_bytes_at}
use Rattle.phys_mem.proofs.little_endian.four_bytes_at.Goals as goal

pub returns : goal.returns
returns c = c.from_le_bytes.ensures ∙ four_bytes_at c.args.page.now c.in-Some.bytes.now c.args.at c.requires c.in-Some.ensures.cases.same
