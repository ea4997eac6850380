use Rattle.dma_check.proofs.PathIs.{path_is}
use Rattle.dma_check.proofs.reading.path_of.Goals as goal

pub returns : goal.returns
returns c = λ spans declared. path_is c.args.file.now spans declared c.args.source c.args.addr c.requires.addr _ c.root_page.ensures c.context_table-context.ensures c.highest_table-level_3.ensures c.table_below-level_2.ensures c.table_below-level_1.ensures c.table_below-level_0.ensures
