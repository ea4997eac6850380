use Rattle.std.proofs.Common.{arith}
use Rattle.phys_mem.proofs.Fresh.{fresh}
use Rattle.phys_mem.proofs.index_tables.no_indexes.Goals as goal

pub returns-clause-none : goal.returns-clause-none
returns-clause-none c =
    fresh _ c.new-indexes.result.items _ _ c.in_ok-resize.ensures.items (omega (arith, c.new-indexes.ensures.len, c.new-indexes.result.ok.0))
