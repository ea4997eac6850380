use Rattle.std.proofs.Common.{Err, ap, ◌∙◌}
use Rattle.policy_lint.proofs.All.{not_read, not_resolved}
use Rattle.policy_lint.proofs.rules.rules.Goals as goal

pub returns-in-Err : goal.returns-in-Err
returns-in-Err c = ap Err c.in_ok-alone-in-Err.ensures.told ∙ not_read c.args.document.now c.in-Err.refusal c.in_ok-alone-in-Err.ensures.some c.in-Err.ensures

pub returns-in-Err-resolve : goal.returns-in-Err-resolve
returns-in-Err-resolve c =
    ap Err c.in_ok-alone-in-Err-resolve.ensures.told
    ∙ not_resolved c.args.document.now c.in-Ok.source c.in-Err-resolve.refusal c.in-Ok.ensures c.in_ok-alone-in-Err-resolve.ensures.some c.in-Err-resolve.ensures
