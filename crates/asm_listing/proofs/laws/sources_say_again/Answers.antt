use Rattle.asm_listing.proofs.Again.{sources_say_again}
use Rattle.asm_listing.proofs.laws.sources_say_again.Goals as goal

pub returns : goal.returns
returns c = sources_say_again
