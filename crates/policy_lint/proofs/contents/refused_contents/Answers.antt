use Rattle.std.proofs.Common.{◌++◌, Option, append-nil, ap, arith, sym, ◌∙◌, []}
use Rattle.std.specs.List.{cons_option}
use Rattle.std.proofs.lemmas.Result.{err_from_is_err_and}
use Rattle.muen_build.specs.Accepting.{given_files}
use Rattle.policy_lawful.specs.refusal.Refusal.{Refusal}
use Rattle.policy_lint.proofs.ContentsTold.{telling_all, telling_full, telling_on, telling_stops}
use Rattle.policy_lint.proofs.contents.refused_contents.Goals as goal
use Rattle.policy_lint.proofs.contents.refused_contents.Goals.{in-Some+in_ok-push, in_default}

pub returns-in_err-refusal-clause-err : goal.returns-in_err-refusal-clause-err
returns-in_err-refusal-clause-err g c =
    let left = err_from_is_err_and c.from_residual.result c.from_residual.ensures.1 in
    rw (left.1, left.2)
    (rw c.resolved-policy.ensures.value at (telling_stops c.resolved-policy.result.now (given_files c.args.given.now) c.things-thing-items.result.now c.things-thing-items.ensures.declared _ _ _ _ _ _ _ c.loop-thing.invariant c.thing-item.result c.loop-thing-test.true c.thing-item.is _ _ c.in_err-refusal.ensures.err))

-- memory for the answer was refused
pub returns-in_err-push-clause-err : goal.returns-in_err-push-clause-err
returns-in_err-push-clause-err g c =
    let left = err_from_is_err_and c.from_residual-in_err-push.result c.from_residual-in_err-push.ensures.1 in
    rw (left.1, left.2)
    (rw c.resolved-policy.ensures.value at (telling_full c.resolved-policy.result.now (given_files c.args.given.now) c.things-thing-items.result.now c.things-thing-items.ensures.declared _ _ _ _ _ _ _ c.loop-thing.invariant c.thing-item.result c.loop-thing-test.true c.thing-item.is _ _ c.in_ok-refusal.ensures.grows))

pub loop-thing-preserved : goal.loop-thing-preserved
loop-thing-preserved g c =
    telling_on c.resolved-policy.result.now (given_files c.args.given.now) c.things-thing-items.result.now c.things-thing-items.ensures.declared _ _ _ _ _ _ _ c.loop-thing.invariant c.thing-item.result c.loop-thing-test.true c.thing-item.is _ _ _ c.in_ok-refusal.field-0 _ c.in_ok-refusal.ensures.grows c.in_ok-refusal.ensures.told
    (elim c.match-branch-2.branch [
      | in-Some+in_ok-push w ↦ w.refusals-is ∙ w.in_ok-push.ensures.ok ∙ ap (λ (o : Option Refusal). c.loop-thing.refusals ++ cons_option o []) (sym w.in-Some.is)
      | in_default w ↦ w.refusals-is ∙ sym (append-nil c.loop-thing.refusals) ∙ ap (λ (o : Option Refusal). c.loop-thing.refusals ++ cons_option o []) (sym w.in_default.is)
    ])
    c.content_refused.ensures.held

pub returns-clause-ok : goal.returns-clause-ok
returns-clause-ok g c = rw c.resolved-policy.ensures.value at (telling_all c.resolved-policy.result.now (given_files c.args.given.now) c.things-thing-items.result.now c.things-thing-items.ensures.declared _ _ _ _ _ _ _ c.loop-thing.invariant (omega (arith, c.loop-thing-test.false)))
