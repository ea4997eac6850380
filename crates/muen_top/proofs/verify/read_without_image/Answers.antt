use Rattle.std.proofs.lemmas.Result.{err_from_is_err_and}
use Rattle.muen_top.proofs.verify.read_without_image.Goals as goal

pub returns-in_err-things-clause-err : goal.returns-in_err-things-clause-err
returns-in_err-things-clause-err g c =
    let left = err_from_is_err_and c.from_residual.result c.from_residual.ensures.1 in
    rw (left.1) (record { build_error = c.in_err-things.field-0.0; lacks = c.in_err-things.ensures.err; made = left.2 })
