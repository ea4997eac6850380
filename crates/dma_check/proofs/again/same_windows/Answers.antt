use Rattle.std.proofs.lemmas.Slice.Eq.{slice_eq-Decides}
use Rattle.dma_check.proofs.AgainLaws.{window_tells}
use Rattle.dma_check.proofs.again.same_windows.Goals as goal

pub returns : goal.returns
returns c = (slice_eq-Decides window_tells c.args.a.now c.args.b.now c.eq.result c.eq.ensures).0
