use Rattle.std.proofs.Common.{◌≡◌, ◌++◌, take}
use Rattle.std.specs.List.{concat}
use Rattle.dma_emit.proofs.tables.put_tables.Given as goal

-- those of the domains so far
abbrev pub invariant-loop-of_domain : goal.invariant-loop-of_domain
invariant-loop-of_domain l = l.out.items ≡ l.fn.out.items ++ concat (take l.of_domain-index l.tables)
