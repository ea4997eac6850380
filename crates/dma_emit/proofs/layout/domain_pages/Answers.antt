use Rattle.std.proofs.Common.{[], sym, ◌∙◌, subst}
use Rattle.dma_emit.specs.Ready.{AreDomainWindows}
use Rattle.dma_emit.proofs.Layouts.{windows_there}
use Rattle.dma_emit.proofs.Lists.{index_is}
use Rattle.dma_emit.proofs.layout.domain_pages.Goals as goal

pub table_pages-requires : goal.table_pages-requires
table_pages-requires c =
    let d = c.args.domains.now in
    let is = c.items-2.ensures ∙ index_is c.items.result.now d.windows c.args.number c.index-items-number.result [] c.index-items-number.is c.items.ensures c.requires.there in
    subst AreDomainWindows (sym is) (windows_there d c.args.number c.requires.ready c.requires.there)
