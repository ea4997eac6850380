use Rattle.std.proofs.lemmas.Result.{IfErr-weaker, IfOk-weaker, err_from_is_err_and}
use Rattle.asm_top.proofs.Ending.{alone, alone_unread, not_alone}
use Rattle.asm_top.proofs.reading.read_alone.Goals as goal

-- the file isn't read
pub returns-in_err-text-clause-err : goal.returns-in_err-text-clause-err
returns-in_err-text-clause-err g c =
    let left = err_from_is_err_and c.from_residual.result c.from_residual.ensures.1 in
    rw (left.1, left.2) (alone_unread c.args.source.now _ _ _ c.in_err-text.field-0.0 c.in_err-text.ensures.err)

pub returns-clause-ok : goal.returns-clause-ok
returns-clause-ok g c =
    IfOk-weaker c.said_alone.result _ _ (λ v is. alone c.args.source.now _ _ _ c.in_ok-text.text c.in_ok-text.ensures.ok v.items is) (rw c.items.ensures at c.said_alone.ensures.ok)

pub returns-clause-err : goal.returns-clause-err
returns-clause-err g c =
    IfErr-weaker c.said_alone.result _ _ (λ error h. not_alone c.args.source.now _ _ _ c.in_ok-text.text c.in_ok-text.ensures.ok error h) (rw c.items.ensures at c.said_alone.ensures.err)
