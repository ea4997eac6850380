use Rattle.std.proofs.Common.{subst, sym}
use Rattle.std.proofs.lemmas.Result.{err_from_is_err_and}
use Rattle.muen_top.specs.Loads.{IsKnown}
use Rattle.muen_top.proofs.run.read_named.Goals as goal

-- there are no tables
pub returns-in_err-found-in-Some-clause-err : goal.returns-in_err-found-in-Some-clause-err
returns-in_err-found-in-Some-clause-err g c looks known =
    let left = err_from_is_err_and c.from_residual.result c.from_residual.ensures.1 in
    rw (left.1, left.2, c.in-Some.is) (c.in_err-found-in-Some.ensures.err looks (subst (IsKnown looks c.in-Some.name.now) (sym c.known_as.ensures) (known c.in-Some.name.now)))

-- there are
pub returns-in_ok-found-in-Some-clause-ok : goal.returns-in_ok-found-in-Some-clause-ok
returns-in_ok-found-in-Some-clause-ok g c looks known =
    rw c.in-Some.is (c.in_ok-found-in-Some.ensures.ok looks (subst (IsKnown looks c.in-Some.name.now) (sym c.known_as.ensures) (known c.in-Some.name.now)))
