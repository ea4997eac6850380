use Rattle.std.specs.Prelude.{is_some}
use Rattle.std.proofs.Common.{ap, ◌∙◌}
use Rattle.policy_names.proofs.Names.{found_if, has_index}
use Rattle.policy_names.proofs.declared.find.Goals as goal

pub returns-clause-declared : goal.returns-clause-declared
returns-clause-declared c = ap is_some c.index_of.ensures ∙ has_index c.args.names.now c.args.name

pub returns-clause-index : goal.returns-clause-index
returns-clause-index c = found_if c.args.names.now c.args.name c.index_of.result c.index_of.ensures
