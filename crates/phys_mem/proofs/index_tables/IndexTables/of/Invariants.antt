use Rattle.phys_mem.specs.IndexTables.{TellsTo}
use Rattle.phys_mem.proofs.index_tables.IndexTables.of.Given as goal

-- the first i numbers
abbrev pub invariant-loop-i : goal.invariant-loop-i
invariant-loop-i l = TellsTo l.tables.upper.items l.tables.lower.items l.numbers l.i
