use Rattle.std.proofs.Common.{◌∙◌}
use Rattle.std.proofs.lemmas.Result.{err_from_is_err_and}
use Rattle.muen_top.proofs.Verifying.{contents_have, contents_lack, not_lawful}
use Rattle.muen_top.proofs.verify.read_to_judge.Goals as goal

-- the image isn't read
pub returns-in_err-read-clause-err : goal.returns-in_err-read-clause-err
returns-in_err-read-clause-err g c =
    let left = err_from_is_err_and c.from_residual.result c.from_residual.ensures.1 in
    rw (left.1, left.2) (c.in_err-read.ensures.err c.args.policy.now)

-- the policy isn't
pub returns-in_err-found-clause-err : goal.returns-in_err-found-clause-err
returns-in_err-found-clause-err g c =
    let left = err_from_is_err_and c.from_residual-in_err-found.result c.from_residual-in_err-found.ensures.1 in
    let image = c.in_ok-read.ensures in
    rw (left.1, left.2)
    (not_lawful (record { saw = image.ok; same = c.read_image.ensures.held; is = image.parts.1 }) c.in_err-found.field-0.0 (rw c.items.ensures at c.in_err-found.ensures.err))

-- its contents aren't
pub returns-in_err-things-clause-err : goal.returns-in_err-things-clause-err
returns-in_err-things-clause-err g c =
    let left = err_from_is_err_and c.from_residual-in_err-things.result c.from_residual-in_err-things.ensures.1 in
    let image = c.in_ok-read.ensures in
    let lacks = rw (c.items-2.ensures) at c.in_err-things.ensures.err in
    rw (left.1, left.2)
    (contents_lack _ (record { saw = image.ok; same = c.read_image.ensures.held; is = image.parts.1 }) (rw c.items.ensures at c.in_ok-found.ensures.ok)
    (c.read_policy.ensures.held ∙ c.read_image.ensures.held) lacks.build_error c.in_err-things.field-0.0 lacks.lacks lacks.made)

-- all is read
pub returns-clause-ok : goal.returns-clause-ok
returns-clause-ok g c =
    let image = c.in_ok-read.ensures in
    contents_have _ (record { saw = image.ok; same = c.read_image.ensures.held; is = image.parts.1 }) (rw c.items.ensures at c.in_ok-found.ensures.ok)
    (c.read_policy.ensures.held ∙ c.read_image.ensures.held) c.in_ok-things.things (rw (c.items-2.ensures) at c.in_ok-things.ensures.ok) image.parts.0
