use Rattle.std.proofs.lemmas.Result.{err_from_is_err_and}
use Rattle.muen_top.proofs.Booting.{boot_ready, not_made, policy_not_read}
use Rattle.muen_top.proofs.boot.ready.Goals as goal

-- the policy's file isn't read
pub returns-in_err-document-clause-err : goal.returns-in_err-document-clause-err
returns-in_err-document-clause-err g c =
    let left = err_from_is_err_and c.from_residual.result c.from_residual.ensures.1 in
    rw (left.1, left.2) (λ inputs. policy_not_read _ inputs _ _ _ c.in_err-document.field-0.0 c.in_err-document.ensures.err)

-- the policy gives no image
pub returns-in_err-made-clause-err : goal.returns-in_err-made-clause-err
returns-in_err-made-clause-err g c =
    let left = err_from_is_err_and c.from_residual-in_err-made.result c.from_residual-in_err-made.ensures.1 in
    rw (left.1, left.2)
    (not_made _ _ _ _ _ c.load.ensures.held c.in_ok-document.document c.in_ok-document.ensures.ok _ c.in_err-made.field-0.0 (rw c.items.ensures at c.in_err-made.ensures.err))

-- it does
pub returns-clause-ok : goal.returns-clause-ok
returns-clause-ok g c =
    let m = rw c.items.ensures at c.in_ok-made.ensures.ok in
    boot_ready _ _ _ _ _ c.load.ensures.held c.in_ok-document.document c.in_ok-document.ensures.ok _ c.in_ok-made.made.files m.looked m.asked m.source m.accepts c.in_ok-made.made.parts c.in_ok-made.made.tables m.back
