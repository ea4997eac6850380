use Rattle.std.proofs.lemmas.Result.{err_from_is_err_and}
use Rattle.muen_build.proofs.Refusing.{not_laid}
use Rattle.muen_build.proofs.Placing.{laid_so}
use Rattle.muen_build.proofs.lay.Goals as goal

-- it isn't lawful
pub returns-in_err-policy : goal.returns-in_err-policy
returns-in_err-policy c =
    let left = err_from_is_err_and c.from_residual.result c.from_residual.ensures.1 in
    rw (left.1, left.2) (not_laid c.args.policy.now c.in_err-policy.field-0.0 c.in_err-policy.ensures)

-- its room decides
pub returns : goal.returns
returns c = laid_so c.args.policy.now c.in_ok-policy.policy c.place.result c.in_ok-policy.ensures c.place.ensures.ok c.place.ensures.room c.place.ensures.err
