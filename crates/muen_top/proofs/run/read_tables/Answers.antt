use Rattle.std.proofs.lemmas.Result.{err_from_is_err_and}
use Rattle.muen_top.specs.Loads.{faulty, unread}
use Rattle.muen_top.proofs.run.read_tables.Goals as goal

-- the file isn't read
pub returns-in_err-bytes-clause-err : goal.returns-in_err-bytes-clause-err
returns-in_err-bytes-clause-err g c looks known =
    let left = err_from_is_err_and c.from_residual.result c.from_residual.ensures.1 in
    rw (left.1, left.2) (unread (c.in_err-bytes.ensures.err looks known))

-- it is none of tables
pub returns-in_err-tables-clause-err : goal.returns-in_err-tables-clause-err
returns-in_err-tables-clause-err g c looks known =
    let left = err_from_is_err_and c.from_residual-in_err-tables.result c.from_residual-in_err-tables.ensures.1 in
    let h = rw c.items.ensures at c.in_err-tables.ensures.err in
    rw (left.1, left.2) (faulty c.in_ok-bytes.bytes h.0 (c.in_ok-bytes.ensures.ok looks known) h.1 h.2)

-- it is one
pub returns-clause-ok : goal.returns-clause-ok
returns-clause-ok g c looks known = (c.in_ok-bytes.ensures.ok looks known, rw c.items.ensures at c.in_ok-tables.ensures.ok)
