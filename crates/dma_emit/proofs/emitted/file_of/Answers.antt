use Rattle.std.proofs.Common.{arith}
use Rattle.dma_emit.proofs.FileMade.{made_for}
use Rattle.dma_emit.proofs.Layouts.{before_all, count_is, page_there}
use Rattle.dma_emit.proofs.emitted.file_of.Goals as goal

pub index-count-requires : goal.index-count-requires
index-count-requires c =
    let there = page_there c.in_ok-domains.domains c.in_ok-numbers.numbers.items c.in_ok-numbers.ensures c.len.result (omega (arith, c.len.ensures)) in
    omega (arith, c.in_ok-numbers.numbers.ok.0)

pub base_of-requires-clause-some : goal.base_of-requires-clause-some
base_of-requires-clause-some c =
    let count = count_is c.in_ok-domains.domains c.in_ok-numbers.numbers.items c.in_ok-numbers.ensures c.len.result c.index-count.result.now c.len.ensures c.index-count.ensures in
    let some = before_all c.in_ok-domains.domains 0 (omega arith) in
    omega arith

pub base_of-requires-clause-few : goal.base_of-requires-clause-few
base_of-requires-clause-few c =
    let count = count_is c.in_ok-domains.domains c.in_ok-numbers.numbers.items c.in_ok-numbers.ensures c.len.result c.index-count.result.now c.len.ensures c.index-count.ensures in
    let few = c.in_ok-domains.ensures.ready.pages in
    omega arith

pub all_pages-requires-clause-root : goal.all_pages-requires-clause-root
all_pages-requires-clause-root c =
    let count = count_is c.in_ok-domains.domains c.in_ok-numbers.numbers.items c.in_ok-numbers.ensures c.len.result c.index-count.result.now c.len.ensures c.index-count.ensures in
    let low = c.in_ok-base.ensures.low in
    omega arith

pub returns : goal.returns
returns c =
    let d = c.in_ok-domains.domains in
    let count = count_is d c.in_ok-numbers.numbers.items c.in_ok-numbers.ensures c.len.result c.index-count.result.now c.len.ensures c.index-count.ensures in
    made_for c.args.placed.now d c.index-count.result.now c.in_ok-base.base c.in_ok-pages.pages.items c.in_ok-listed.field-0 c.file_from.result c.in_ok-domains.ensures.placed c.in_ok-domains.ensures.domains count
    c.in_ok-base.ensures.base c.in_ok-base.ensures.low c.in_ok-pages.ensures c.in_ok-listed.ensures.value c.in_ok-listed.ensures.are c.file_from.ensures.value c.file_from.ensures.bytes
