use Rattle.std.proofs.lemmas.Result.{err_from_is_err_and}
use Rattle.muen_num.specs.declared.limits.TheConstants.{IMAGE_MOST}
use Rattle.muen_top.proofs.FilesSeen.{first_known}
use Rattle.muen_top.proofs.Running.{image_not_read, image_refused_so, lacks_tables, run_ready}
use Rattle.muen_top.proofs.run.ready.Goals as goal

-- the image's file isn't read
pub returns-in_err-bytes-clause-err : goal.returns-in_err-bytes-clause-err
returns-in_err-bytes-clause-err g c =
    let left = err_from_is_err_and c.from_residual.result c.from_residual.ensures.1 in
    rw (left.1, left.2) (λ inputs. image_not_read _ inputs _ _ _ _ c.in_err-bytes.field-0.0 c.in_err-bytes.ensures.err)

-- the image is refused
pub returns-in_err-parts-clause-err : goal.returns-in_err-parts-clause-err
returns-in_err-parts-clause-err g c =
    let left = err_from_is_err_and c.from_residual-in_err-parts.result c.from_residual-in_err-parts.ensures.1 in
    rw (left.1)
    (λ inputs. image_refused_so _ inputs _ _ _ _ c.in_ok-bytes.bytes c.in_ok-bytes.ensures.ok c.in_err-parts.field-0.0 left.0 (rw c.items.ensures at c.in_err-parts.ensures.exact) left.2)

-- there are no tables
pub returns-in_err-tables-clause-err : goal.returns-in_err-tables-clause-err
returns-in_err-tables-clause-err g c =
    let left = err_from_is_err_and c.from_residual-in_err-tables.result c.from_residual-in_err-tables.ensures.1 in
    let known = first_known c.args.image.now IMAGE_MOST c.in_ok-bytes.bytes in
    rw (left.1, left.2)
    (lacks_tables (record { saw = c.in_ok-bytes.ensures.ok; same = c.load.ensures.held; is = rw c.items.ensures at c.in_ok-parts.ensures.exact }) _ _ c.in_err-tables.field-0.0
    ((rw c.items-2.ensures at c.in_err-tables.ensures.err) _ known))

-- all is read
pub returns-clause-ok : goal.returns-clause-ok
returns-clause-ok g c =
    let known = first_known c.args.image.now IMAGE_MOST c.in_ok-bytes.bytes in
    run_ready (record { saw = c.in_ok-bytes.ensures.ok; same = c.load.ensures.held; is = rw c.items.ensures at c.in_ok-parts.ensures.exact }) _ _ c.in_ok-tables.tables
    ((rw c.items-2.ensures at c.in_ok-tables.ensures.ok) _ known)
