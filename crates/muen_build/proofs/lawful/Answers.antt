use Rattle.std.proofs.Common.{sym, subst}
use Rattle.std.proofs.lemmas.Result.{err_from_is_err_and}
use Rattle.muen_num.specs.Answers.{Answers}
use Rattle.policy_lawful.specs.Resolution.{kept_source, source_of}
use Rattle.policy_lawful.specs.refusal.Refusal.TheVariants.{NoMemory}
use Rattle.muen_build.proofs.Refusing.{not_read, not_resolved, rules_decide}
use Rattle.muen_build.proofs.lawful.Goals as goal

-- it isn't read
pub returns-in_err-source : goal.returns-in_err-source
returns-in_err-source c =
    let left = err_from_is_err_and c.from_residual.result c.from_residual.ensures.1 in
    rw (left.1, left.2) (not_read c.args.policy.now c.in_err-source.field-0.0 c.in_err-source.ensures)

-- rules 1 and 2
pub returns-in_err-resolved : goal.returns-in_err-resolved
returns-in_err-resolved c =
    let left = err_from_is_err_and c.from_residual-in_err-resolved.result c.from_residual-in_err-resolved.ensures.1 in
    rw (left.1, left.2)
    (not_resolved c.args.policy.now c.in_ok-source.source c.in_err-resolved.field-0.0 c.in_ok-source.ensures c.in_err-resolved.ensures)

-- the other rules
pub returns : goal.returns
returns c =
    subst (λ wanted. Answers NoMemory wanted (kept_source c.check.result))
    (sym (rules_decide c.args.policy.now c.in_ok-source.source (source_of c.in_ok-resolved.resolved) c.in_ok-source.ensures c.in_ok-resolved.ensures))
    c.check.ensures
