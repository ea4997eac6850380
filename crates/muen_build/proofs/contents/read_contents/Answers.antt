use Rattle.std.proofs.lemmas.Result.{err_from_is_err_and}
use Rattle.muen_build.specs.Accepting.{given_files}
use Rattle.muen_build.proofs.Checking.{passing_first, passing_on, passing_stops}
use Rattle.muen_build.proofs.contents.read_contents.Goals as goal

pub loop-thing-init : goal.loop-thing-init
loop-thing-init g c = rw (c.new-found.ensures) (passing_first c.resolved-policy.result.now (given_files c.args.given.now) c.things-thing-items.result.now c.things-thing-items.ensures.declared _ _)

pub returns-in_err-check-clause-err : goal.returns-in_err-check-clause-err
returns-in_err-check-clause-err g c =
    let left = err_from_is_err_and c.from_residual.result c.from_residual.ensures.1 in
    rw (left.1, left.2)
    (rw c.resolved-policy.ensures.value at
    (passing_stops c.resolved-policy.result.now (given_files c.args.given.now) c.things-thing-items.result.now c.things-thing-items.ensures.declared _ _ _ _ _ _ c.loop-thing.invariant c.thing-item.result c.loop-thing-test.true c.thing-item.is _ _ c.in_err-check.ensures.err))

pub loop-thing-preserved : goal.loop-thing-preserved
loop-thing-preserved g c =
    passing_on c.resolved-policy.result.now (given_files c.args.given.now) c.things-thing-items.result.now c.things-thing-items.ensures.declared _ _ _ _ _ _ c.loop-thing.invariant c.thing-item.result c.loop-thing-test.true c.thing-item.is _ _ _
    c.in_ok-check.ensures.grows c.in_ok-check.ensures.passes c.check.ensures.held
