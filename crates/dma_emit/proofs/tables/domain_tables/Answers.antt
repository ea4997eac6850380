use Rattle.std.proofs.Common.{◌+◌, [], get_or, sym, ap, ◌∙◌, subst, arith}
use Rattle.dma_emit.specs.Ready.{AreDomainWindows}
use Rattle.dma_emit.proofs.Layouts.{before_all, page_at, page_there, pages_next, pages_some, pages_step, windows_there}
use Rattle.dma_emit.proofs.Lists.{index_is}
use Rattle.dma_emit.proofs.TablesOf.{of_domain}
use Rattle.dma_emit.proofs.tables.domain_tables.Goals as goal
use Rattle.ept_emit.specs.Pages.{ept_pages, ranges_of}

pub bounds-pages-number : goal.bounds-pages-number
bounds-pages-number c = page_there c.args.domains.now c.args.pages.now c.requires.pages c.args.number (omega arith)

pub overflow_add-root : goal.overflow_add-root
overflow_add-root c =
    let page = page_at c.args.domains.now c.args.pages.now c.requires.pages c.args.number (omega arith) in
    let all = before_all c.args.domains.now c.args.number (omega arith) in
    omega arith

pub bounds-pages-number-2 : goal.bounds-pages-number-2
bounds-pages-number-2 c = page_there c.args.domains.now c.args.pages.now c.requires.pages (c.args.number + 1) (omega arith)

pub overflow_sub-pages : goal.overflow_sub-pages
overflow_sub-pages c =
    let page = page_at c.args.domains.now c.args.pages.now c.requires.pages c.args.number (omega arith) in
    let next = page_at c.args.domains.now c.args.pages.now c.requires.pages (c.args.number + 1) (omega arith) in
    let step = pages_step c.args.domains.now c.args.number in
    omega arith

pub tables_of-requires-clause-windows : goal.tables_of-requires-clause-windows
tables_of-requires-clause-windows c =
    let d = c.args.domains.now in
    let is = c.items-windows.ensures ∙ index_is c.items.result.now d.windows c.args.number c.index-items-number.result [] c.index-items-number.is c.items.ensures c.requires.there in
    subst AreDomainWindows (sym is) (windows_there d c.args.number c.requires.ready c.requires.there)

pub tables_of-requires-clause-count : goal.tables_of-requires-clause-count
tables_of-requires-clause-count c =
    let d = c.args.domains.now in
    let is = c.items-windows.ensures ∙ index_is c.items.result.now d.windows c.args.number c.index-items-number.result [] c.index-items-number.is c.items.ensures c.requires.there in
    let page = page_at d c.args.pages.now c.requires.pages c.args.number (omega arith) in
    let next = page_at d c.args.pages.now c.requires.pages (c.args.number + 1) (omega arith) in
    let step = pages_step d c.args.number in
    let some = pages_some d c.args.number (sym c.has_device.ensures ∙ c.if-not-has_device.false) in
    let same = ap (λ ws. ept_pages (ranges_of ws)) is in
    omega arith

pub tables_of-requires-clause-end : goal.tables_of-requires-clause-end
tables_of-requires-clause-end c =
    let page = page_at c.args.domains.now c.args.pages.now c.requires.pages c.args.number (omega arith) in
    let next = page_at c.args.domains.now c.args.pages.now c.requires.pages (c.args.number + 1) (omega arith) in
    let step = pages_step c.args.domains.now c.args.number in
    let all = pages_next c.args.domains.now c.args.number (omega arith) in
    omega arith

pub returns : goal.returns
returns c =
    let d = c.args.domains.now in
    let is = c.items-windows.ensures ∙ index_is c.items.result.now d.windows c.args.number c.index-items-number.result [] c.index-items-number.is c.items.ensures c.requires.there in
    let page = page_at d c.args.pages.now c.requires.pages c.args.number (omega arith) in
    of_domain d c.args.root c.args.number (get_or c.args.pages.now c.args.number 0) c.items-windows.result.now (sym c.has_device.ensures ∙ c.if-not-has_device.false) is page c.tables_of.result c.tables_of.ensures
