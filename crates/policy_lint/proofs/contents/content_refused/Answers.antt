use Rattle.std.proofs.Common.{ap, sym, ◌∙◌}
use Rattle.std.proofs.lemmas.Result.{err_from_is_err_and}
use Rattle.policy_lawful.specs.Things.{content_told}
use Rattle.muen_build.specs.Accepting.{given_files}
use Rattle.muen_build.proofs.Checking.{file_grows}
use Rattle.policy_lint.proofs.ContentsTold.{file_stops}
use Rattle.policy_lint.proofs.contents.content_refused.Goals as goal

pub returns-in_err-length-in-Some-File-clause-err : goal.returns-in_err-length-in-Some-File-clause-err
returns-in_err-length-in-Some-File-clause-err g c =
    let left = err_from_is_err_and c.from_residual.result c.from_residual.ensures.1 in
    let is = ap content_told (sym c.in-Some-File.ensures) ∙ c.in-Some-File.field-0-is in
    rw (left.1, left.2) (file_stops (given_files c.args.given.now) c.args.policy.now c.args.thing.now _ _ _ is _ _ _ _ _ c.in_err-length-in-Some-File.ensures.err)

pub returns-in_ok-length-in-Some-File-clause-grows : goal.returns-in_ok-length-in-Some-File-clause-grows
returns-in_ok-length-in-Some-File-clause-grows g c =
    let is = ap content_told (sym c.in-Some-File.ensures) ∙ c.in-Some-File.field-0-is in
    file_grows (given_files c.args.given.now) c.args.policy.now c.args.thing.now _ _ _ is _ _ _ _ _ c.in_ok-length-in-Some-File.ensures.grows
