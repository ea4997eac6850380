use Rattle.std.proofs.lemmas.Result.{IfErr-weaker, IfOk-weaker, err_from_is_err_and}
use Rattle.std.proofs.Common.{◌∙◌}
use Rattle.asm_top.proofs.Ending.{both, names_unread, not_both, second_unread}
use Rattle.asm_top.proofs.reading.read_behind.Goals as goal

-- the names aren't read
pub returns-in_err-first-clause-err : goal.returns-in_err-first-clause-err
returns-in_err-first-clause-err g c =
    let left = err_from_is_err_and c.from_residual.result c.from_residual.ensures.1 in
    rw (left.1, left.2) (names_unread c.args.names.now c.args.source.now _ _ _ c.in_err-first.field-0.0 c.in_err-first.ensures.err)

-- the source isn't
pub returns-in_err-behind-clause-err : goal.returns-in_err-behind-clause-err
returns-in_err-behind-clause-err g c =
    let left = err_from_is_err_and c.from_residual-in_err-behind.result c.from_residual-in_err-behind.ensures.1 in
    rw (left.1, left.2)
    (second_unread c.args.names.now c.args.source.now _ _ c.in_ok-first.ensures.held _ _ c.in_ok-first.first c.in_ok-first.ensures.ok _ c.in_err-behind.field-0.0 c.in_err-behind.ensures.err)

pub returns-clause-ok : goal.returns-clause-ok
returns-clause-ok g c =
    IfOk-weaker c.said_behind.result _ _
    (λ v is. both c.args.names.now c.args.source.now _ _ c.in_ok-first.ensures.held _ _ c.in_ok-first.first c.in_ok-first.ensures.ok _ c.in_ok-behind.behind c.in_ok-behind.ensures.ok v.items is)
    (rw (c.items.ensures, c.items-2.ensures) at c.said_behind.ensures.ok)

pub returns-clause-err : goal.returns-clause-err
returns-clause-err g c =
    IfErr-weaker c.said_behind.result _ _
    (λ error h. not_both c.args.names.now c.args.source.now _ _ c.in_ok-first.ensures.held _ _ c.in_ok-first.first c.in_ok-first.ensures.ok _ c.in_ok-behind.behind c.in_ok-behind.ensures.ok error h)
    (rw (c.items.ensures, c.items-2.ensures) at c.said_behind.ensures.err)

pub returns-clause-held : goal.returns-clause-held
returns-clause-held g c = c.in_ok-behind.ensures.held ∙ c.in_ok-first.ensures.held
