use Rattle.std.proofs.Common.{◌≡◌, ◌+◌, ◌-◌, ◌<◌, Some, ap, ◌∙◌, arith}
use Rattle.dma_check.proofs.AgainLaws.{if_some}
use Rattle.dma_check.specs.Again.{highest_of}
use Rattle.dma_tables.specs.DmaWalk.{root_page}
use Rattle.dma_check.proofs.again.earlier_of.Goals as goal

pub returns-clause-before : goal.returns-clause-before
returns-clause-before c = if_some _ (λ s. s < c.args.source) (λ s e. (c.requires.earlier (c.in_ok-table.table - c.root_page-root.result) s e).0)

pub returns-clause-highest : goal.returns-clause-highest
returns-clause-highest c =
    let place : root_page c.args.file.now + (c.in_ok-table.table - c.root_page-root.result) ≡ c.in_ok-table.table = omega (arith, c.root_page-root.ensures, c.if-table-root.false) in
    if_some _ (λ s. highest_of c.args.file.now s ≡ highest_of c.args.file.now c.args.source) (λ s e. (c.requires.earlier (c.in_ok-table.table - c.root_page-root.result) s e).1 ∙ ap (λ n. Some n) place ∙ c.in_ok-table.ensures)
