use Rattle.std.proofs.lemmas.Result.{err_from_is_err_and}
use Rattle.policy_lawful.specs.Resolution.{source_of}
use Rattle.dma_top.specs.Answers.{placed_plan}
use Rattle.dma_top.proofs.Placed.{not_placed, placed_so}
use Rattle.dma_top.proofs.policies.read_placed.Goals as goal

pub returns-in_err-policy-clause-err : goal.returns-in_err-policy-clause-err
returns-in_err-policy-clause-err g c =
    let left = err_from_is_err_and c.from_residual.result c.from_residual.ensures.1 in
    rw (left.1, left.2) (c.in_err-policy.ensures.err placed_plan)

pub returns-in-Ok-clause-ok : goal.returns-in-Ok-clause-ok
returns-in-Ok-clause-ok g c = rw (c.in-Ok.ensures.ok) (placed_so c.args.policy.now _ _ _ (source_of c.in_ok-policy.policy) c.in_ok-policy.ensures.ok c.in-Ok.ensures.room)

pub returns-in-Err-clause-err : goal.returns-in-Err-clause-err
returns-in-Err-clause-err g c =
    not_placed c.args.policy.now _ _ _ (source_of c.in_ok-policy.policy) c.in_ok-policy.ensures.ok c.in-Err.refusal c.in-Err.ensures.err _ c.policy_error.ensures
