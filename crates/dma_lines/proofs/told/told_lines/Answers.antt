use Rattle.dma_lines.proofs.LinesTold.{dropped_unwritten, first_told, spans_told, writes_told}
use Rattle.dma_lines.proofs.Ways.{comes_goes}
use Rattle.dma_lines.proofs.told.told_lines.Goals as goal

pub returns : goal.returns
returns c = record {
  comes = comes_goes;
  dropped = dropped_unwritten;
  first = first_told;
  writes = writes_told;
  spans = spans_told;
}
