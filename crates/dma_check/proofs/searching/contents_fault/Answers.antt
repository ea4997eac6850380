use Rattle.std.proofs.Common.{◌∙◌}
use Rattle.dma_check.proofs.Found.{contents_is}
use Rattle.dma_check.specs.Held.{view_by}
use Rattle.dma_check.proofs.searching.contents_fault.Goals as goal

pub returns : goal.returns
returns c = λ declared own is.
    c.compare.ensures
    ∙ contents_is (view_by c.args.file.now c.args.spans.now declared) c.args.windows.now c.args.source c.args.addr c.requires.addr c.args.highest own is c.walk.result c.walk-2.result c.told.result c.told-2.result c.walk.ensures.value c.walk-2.ensures.value c.told.ensures c.told-2.ensures
