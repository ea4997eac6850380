-- What stands at the index of the name.
use Rattle.std.proofs.Common.{sym, ◌∙◌}
use Rattle.policy_lawful.proofs.NameSets.{found_by_index, not_found}
use Rattle.rules_devices.proofs.declared.Declared.find.Goals as goal

pub returns-in-Some : goal.returns-in-Some
returns-in-Some g c = c.item_at.ensures ∙ found_by_index g.T.Named.name c.args.self.now.items.now c.args.name.now c.in-Some.index (sym c.index_of.ensures ∙ c.in-Some.is)

pub returns-in-None : goal.returns-in-None
returns-in-None g c = not_found g.T.Named.name c.args.self.now.items.now c.args.name.now (sym c.index_of.ensures ∙ c.in-None.is)
