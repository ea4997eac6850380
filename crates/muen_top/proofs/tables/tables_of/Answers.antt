use Rattle.muen_top.proofs.TablesFit.{are_tables}
use Rattle.muen_top.proofs.tables.tables_of.Goals as goal

pub returns : goal.returns
returns c = are_tables c.args.placed.now c.is_placed.ensures.is c.emit.result c.emit.ensures.walk c.emit.ensures.file c.emit.ensures.few c.emit.ensures.base
