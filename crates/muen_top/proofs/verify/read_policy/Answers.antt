use Rattle.std.proofs.Common.{subst, sym}
use Rattle.std.proofs.lemmas.Result.{err_from_is_err_and}
use Rattle.muen_num.specs.declared.limits.TheConstants.{IMAGE_MOST}
use Rattle.muen_top.specs.Loads.{IsKnown}
use Rattle.muen_top.specs.Verifying.{image_looks, unlawful, unread}
use Rattle.muen_top.proofs.FilesSeen.{first_known}
use Rattle.muen_top.proofs.verify.read_policy.Goals as goal

-- the file isn't read
pub returns-in_err-document-clause-err : goal.returns-in_err-document-clause-err
returns-in_err-document-clause-err g c =
    let left = err_from_is_err_and c.from_residual.result c.from_residual.ensures.1 in
    let looks = image_looks c.args.image.now c.args.bytes.now in
    let known = subst (IsKnown looks c.args.policy.now) (sym c.known_as-known.ensures) (first_known c.args.image.now IMAGE_MOST c.args.bytes.now c.args.policy.now) in
    rw (left.1, left.2) (unread (c.in_err-document.ensures.err looks known))

-- the policy is refused
pub returns-in_err-policy-clause-err : goal.returns-in_err-policy-clause-err
returns-in_err-policy-clause-err g c =
    let left = err_from_is_err_and c.from_residual-in_err-policy.result c.from_residual-in_err-policy.ensures.1 in
    let looks = image_looks c.args.image.now c.args.bytes.now in
    let known = subst (IsKnown looks c.args.policy.now) (sym c.known_as-known.ensures) (first_known c.args.image.now IMAGE_MOST c.args.bytes.now c.args.policy.now) in
    rw (left.1) (unlawful c.in_ok-document.document c.in_err-policy.field-0.0 (c.in_ok-document.ensures.ok looks known) (rw c.items.ensures at c.in_err-policy.ensures) left.2)

-- it is lawful
pub returns-clause-ok : goal.returns-clause-ok
returns-clause-ok g c =
    let looks = image_looks c.args.image.now c.args.bytes.now in
    let known = subst (IsKnown looks c.args.policy.now) (sym c.known_as-known.ensures) (first_known c.args.image.now IMAGE_MOST c.args.bytes.now c.args.policy.now) in
    record { read = c.in_ok-document.ensures.ok looks known; lawful = rw c.items.ensures at c.in_ok-policy.ensures }
