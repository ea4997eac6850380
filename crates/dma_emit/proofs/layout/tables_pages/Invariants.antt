use Rattle.std.proofs.Common.{◌≡◌, ◌+◌, map}
use Rattle.dma_emit.specs.Layout.{tables_page}
use Rattle.muen_num.specs.Range.{numbers_below}
use Rattle.dma_emit.proofs.layout.tables_pages.Given as goal

-- where the tables of the domains so far begin, and those of the next
abbrev pub invariant-loop-number : goal.invariant-loop-number
invariant-loop-number l = record {
  next : l.next ≡ tables_page l.domains l.number;
  pages : l.pages.items ≡ map (tables_page l.domains) (numbers_below (l.number + 1));
}
