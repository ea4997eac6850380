use Rattle.phys_mem.proofs.TableLaws.{no_tables, none_told}
use Rattle.phys_mem.proofs.index_tables.IndexTables.new.Goals as goal

pub invariant_of-result : goal.invariant_of-result
invariant_of-result c =
    record { tables = no_tables _ _ c.in_ok-upper.ensures.long c.in_ok-upper.ensures.none }

pub returns : goal.returns
returns c = none_told _ _ c.in_ok-upper.ensures.none
