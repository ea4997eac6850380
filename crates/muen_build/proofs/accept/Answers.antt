use Rattle.std.proofs.Common.{[], ◌∷◌}
use Rattle.std.proofs.lemmas.Result.{err_from_is_err_and}
use Rattle.policy_lawful.specs.Resolution.{source_of}
use Rattle.muen_build.specs.Accepting.{IsNext, looks_of}
use Rattle.muen_build.proofs.Accepting.{accepts, all_asked, all_looked, contents_fail, room_fails, unlawful_fails}
use Rattle.muen_build.proofs.accept.Goals as goal

pub returns-in_err-policy-clause-err : goal.returns-in_err-policy-clause-err
returns-in_err-policy-clause-err g c =
    let left = err_from_is_err_and c.from_residual.result c.from_residual.ensures.1 in
    rw (left.1, left.2) (unlawful_fails c.args.name.now c.args.document.now _ _ _ c.in_err-policy.ensures)

pub returns-in_err-files-clause-err : goal.returns-in_err-files-clause-err
returns-in_err-files-clause-err g c =
    let left = err_from_is_err_and c.from_residual-in_err-files.result c.from_residual-in_err-files.ensures.1 in
    rw (left.1, left.2) (contents_fail c.args.name.now c.args.document.now (source_of c.in_ok-policy.policy) c.in_ok-policy.ensures _ _ _ _ c.in_err-files.ensures.err)

pub returns-in_err-placed-clause-err : goal.returns-in_err-placed-clause-err
returns-in_err-placed-clause-err g c =
    let left = err_from_is_err_and c.from_residual-in_err-placed.result c.from_residual-in_err-placed.ensures.1 in
    rw (left.1, left.2)
    (room_fails c.args.name.now c.args.document.now (source_of c.in_ok-policy.policy) c.in_ok-policy.ensures _ c.in_ok-files.ensures.passes _ _ _ _ c.in_ok-files.ensures.grows c.in_err-placed.ensures.err)

pub returns-clause-looked : goal.returns-clause-looked
returns-clause-looked g c = all_looked c.args.name.now c.args.document.now _ _ _ (looks_of c.in_ok-files.files) (IsNext ((c.args.name.now, c.args.document.now) ∷ []) (source_of c.in_ok-policy.policy)) c.in_ok-files.ensures.grows

pub returns-clause-asked : goal.returns-clause-asked
returns-clause-asked g c =
    all_asked c.args.name.now c.args.document.now _ _ _ (looks_of c.in_ok-files.files) (source_of c.in_ok-policy.policy) c.in_ok-policy.ensures c.in_ok-files.ensures.grows

pub returns-clause-accepts : goal.returns-clause-accepts
returns-clause-accepts g c =
    rw (c.in_ok-placed.ensures.ok)
    (accepts c.args.name.now c.args.document.now (source_of c.in_ok-policy.policy) c.in_ok-policy.ensures _ c.in_ok-files.ensures.passes c.in_ok-placed.ensures.room)
