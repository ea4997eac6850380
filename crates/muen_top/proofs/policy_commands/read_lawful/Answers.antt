use Rattle.std.proofs.lemmas.Result.{err_from_is_err_and}
use Rattle.policy_lawful.specs.Resolution.{source_of}
use Rattle.muen_top.proofs.PolicyCommands.{flows_gives, flows_not_read, flows_refused}
use Rattle.muen_top.proofs.policy_commands.read_lawful.Goals as goal

-- the policy's file isn't read
pub returns-in_err-bytes-clause-err : goal.returns-in_err-bytes-clause-err
returns-in_err-bytes-clause-err g c =
    let left = err_from_is_err_and c.from_residual.result c.from_residual.ensures.1 in
    rw (left.1, left.2) (flows_not_read _ _ _ _ c.in_err-bytes.field-0.0 c.in_err-bytes.ensures.err)

-- the policy is refused
pub returns-in_err-lawful-clause-err : goal.returns-in_err-lawful-clause-err
returns-in_err-lawful-clause-err g c =
    let left = err_from_is_err_and c.from_residual-in_err-lawful.result c.from_residual-in_err-lawful.ensures.1 in
    rw (left.1) (flows_refused _ _ _ _ c.in_ok-bytes.bytes c.in_ok-bytes.ensures.ok c.in_err-lawful.field-0.0 left.0 (rw c.items.ensures at c.in_err-lawful.ensures) left.2)

-- it is read
pub returns-clause-ok : goal.returns-clause-ok
returns-clause-ok g c = flows_gives _ _ _ _ c.in_ok-bytes.bytes c.in_ok-bytes.ensures.ok (source_of c.in_ok-lawful.lawful) (rw c.items.ensures at c.in_ok-lawful.ensures)
