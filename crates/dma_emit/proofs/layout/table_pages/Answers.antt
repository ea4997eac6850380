use Rattle.std.proofs.Common.{All, sym, ◌∙◌, subst}
use Rattle.dma_emit.proofs.Layouts.{all_mapped}
use Rattle.dma_emit.proofs.layout.table_pages.Goals as goal
use Rattle.ept_emit.specs.Pages.{IsMapped}

pub pages-requires-clause-mapped : goal.pages-requires-clause-mapped
pages-requires-clause-mapped c = subst (All IsMapped) (sym (c.deref.ensures.value ∙ c.in_ok-ranges.ensures)) (all_mapped c.args.windows.now c.requires.emittable)
