use Rattle.std.proofs.Common.{◌∙◌, sym}
use Rattle.dma_top.proofs.Accepted.{accepts}
use Rattle.dma_top.proofs.Completing.{complete}
use Rattle.dma_top.proofs.Ending.{agrees, called}
use Rattle.dma_top.specs.Commands.{command_of}
use Rattle.std.proofs.Common.{map}
use Rattle.std.specs.Prelude.{string_bytes}
use Rattle.dma_top.proofs.call.call.Goals as goal

pub returns-clause-call : goal.returns-clause-call
returns-clause-call g c =
    rw c.finish.ensures.status (called _ _ _ _ _ _ c.work-outcome.result _ c.work-outcome.ensures.came _ _ (rw c.program.ensures.told at c.finish.ensures.told))

pub returns-clause-complete : goal.returns-clause-complete
returns-clause-complete g c =
    rw c.finish.ensures.status
    (complete (command_of (map string_bytes c.args.words.now)) _ _ (called _ _ _ _ _ _ c.work-outcome.result _ c.work-outcome.ensures.came _ _ (rw c.program.ensures.told at c.finish.ensures.told)))

pub returns-clause-accepts : goal.returns-clause-accepts
returns-clause-accepts g c m image policy tables shown is done =
    accepts (command_of (map string_bytes c.args.words.now)) _ _
    (called _ _ _ _ _ _ c.work-outcome.result _ c.work-outcome.ensures.came _ _ (rw c.program.ensures.told at c.finish.ensures.told)) m image policy tables shown is (sym c.finish.ensures.status ∙ done)

pub returns-clause-agrees : goal.returns-clause-agrees
returns-clause-agrees g c = agrees _ _ _ _ _ _ c.work-outcome.result _ c.work-outcome.ensures.came
