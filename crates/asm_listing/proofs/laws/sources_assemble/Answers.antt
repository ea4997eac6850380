use Rattle.asm_listing.proofs.Sources.{sources_assemble}
use Rattle.asm_listing.proofs.laws.sources_assemble.Goals as goal

pub returns : goal.returns
returns c = sources_assemble
