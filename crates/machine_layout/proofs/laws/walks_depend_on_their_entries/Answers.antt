use Rattle.machine_layout.proofs.WalkLaws.{same_walks, same_addresses, same_sizes, same_types}
use Rattle.machine_layout.proofs.laws.walks_depend_on_their_entries.Goals as goal

pub returns : goal.returns
returns c = record { walks = same_walks; addresses = same_addresses; sizes = same_sizes; types = same_types }
