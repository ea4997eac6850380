use Rattle.std.proofs.lemmas.Result.{err_from_is_err_and}
use Rattle.muen_top.proofs.Verifying.{image_not_read, image_refused_so}
use Rattle.muen_top.proofs.verify.read_image.Goals as goal

-- the image's file isn't read
pub returns-in_err-bytes-clause-err : goal.returns-in_err-bytes-clause-err
returns-in_err-bytes-clause-err g c =
    let left = err_from_is_err_and c.from_residual.result c.from_residual.ensures.1 in
    rw (left.1, left.2) (λ policy. image_not_read _ policy _ _ _ c.in_err-bytes.field-0.0 c.in_err-bytes.ensures.err)

-- the image is refused
pub returns-in_err-parts-clause-err : goal.returns-in_err-parts-clause-err
returns-in_err-parts-clause-err g c =
    let left = err_from_is_err_and c.from_residual-in_err-parts.result c.from_residual-in_err-parts.ensures.1 in
    rw (left.1)
    (λ policy. image_refused_so _ policy _ _ _ c.in_ok-bytes.bytes c.in_ok-bytes.ensures.ok c.in_err-parts.field-0.0 left.0 (rw c.items.ensures at c.in_err-parts.ensures.exact) left.2)
