-- The digest has taken these names and no others.
use Rattle.std.proofs.Common.{[], map}
use Rattle.policy_lawful.proofs.name_hash.NameHash.behind.Goals as goal

pub returns : goal.returns
returns g c = c.hash.ensures (map g.T.Named.name c.args.items.now) (c.add_all.ensures [] c.new-digest.ensures)
