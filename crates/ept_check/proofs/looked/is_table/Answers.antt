use Rattle.std.proofs.Common.{◌∙◌}
use Rattle.ept_check.proofs.Marks.{among_by}
use Rattle.ept_check.proofs.looked.is_table.Goals as goal

pub returns : goal.returns
returns c = c.is_some.ensures ∙ among_by c.args.pages.now c.args.page c.index_of.result c.index_of.ensures
