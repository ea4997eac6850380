use Rattle.std.proofs.Common.{sym}
use Rattle.dma_check.proofs.Found.{found_low}
use Rattle.dma_check.proofs.searching.told.Goals as goal

pub told_by-requires-clause-has : goal.told_by-requires-clause-has
told_by-requires-clause-has c = (found_low c.args.windows.now c.args.addr c.in-Some.window.now (sym c.in-Some.ensures) c.requires.low).0

pub told_by-requires-clause-low : goal.told_by-requires-clause-low
told_by-requires-clause-low c = (found_low c.args.windows.now c.args.addr c.in-Some.window.now (sym c.in-Some.ensures) c.requires.low).1
