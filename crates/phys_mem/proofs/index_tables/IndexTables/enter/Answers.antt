use Rattle.std.proofs.Common.{◌==◌, Some, cond, ap, ◌∙◌}
use Rattle.phys_mem.proofs.TableLaws.{entered}
use Rattle.phys_mem.proofs.index_tables.IndexTables.enter.Goals as goal

pub returns : goal.returns
returns c = λ k.
    let t = c.table_for.new.self in
    let made = c.in_ok-base.ensures in
    entered t.upper.items t.lower.items t.tables c.args.number c.in_ok-base.base c.args.index made.table k
    ∙ ap (λ o. cond (k == c.args.number) (Some c.args.index) o) (made.same k)
