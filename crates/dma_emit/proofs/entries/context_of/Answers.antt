use Rattle.std.proofs.Common.{◌+◌, ap, ◌∙◌, arith}
use Rattle.dma_emit.specs.Entries.{domain_word, refers_to}
use Rattle.dma_emit.proofs.Layouts.{before_all, page_at, page_there}
use Rattle.dma_emit.proofs.entries.context_of.Goals as goal

pub bounds-pages-device : goal.bounds-pages-device
bounds-pages-device c = page_there c.args.domains.now c.args.pages.now c.requires.pages c.args.device.now.domain (omega arith)

pub overflow_add-root : goal.overflow_add-root
overflow_add-root c =
    let page = page_at c.args.domains.now c.args.pages.now c.requires.pages c.args.device.now.domain (omega arith) in
    let all = before_all c.args.domains.now c.args.device.now.domain (omega arith) in
    omega arith

pub refers_to-requires : goal.refers_to-requires
refers_to-requires c =
    let page = page_at c.args.domains.now c.args.pages.now c.requires.pages c.args.device.now.domain (omega arith) in
    let all = before_all c.args.domains.now c.args.device.now.domain (omega arith) in
    omega arith

pub returns : goal.returns
returns c =
    let page = page_at c.args.domains.now c.args.pages.now c.requires.pages c.args.device.now.domain (omega arith) in
    λ i. record { low = (c.refers_to.ensures ∙ ap (λ p. refers_to (c.args.root + p)) page) i; high = domain_word c.args.device.now.domain }
