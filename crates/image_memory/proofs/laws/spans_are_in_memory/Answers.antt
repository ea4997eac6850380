use Rattle.image_memory.proofs.MemoryPages.{in_spans}
use Rattle.image_memory.proofs.laws.spans_are_in_memory.Goals as goal

pub returns : goal.returns
returns c = in_spans
