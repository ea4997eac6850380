use Rattle.dma_check.proofs.checking.check.Goals as goal

pub returns : goal.returns
returns c = c.check_spans.ensures c.args.image.now c.of.ensures.parts c.in_ok-spans.ensures.same
