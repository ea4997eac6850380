use Rattle.std.proofs.lemmas.Result.{err_from_is_err_and}
use Rattle.muen_build.specs.Refusals.{lawful_policy_of}
use Rattle.muen_num.specs.declared.limits.TheConstants.{POLICY_MOST}
use Rattle.policy_lawful.specs.Resolution.{source_of}
use Rattle.policy_lawful.specs.refusal.Refusal.TheVariants.{NoMemory}
use Rattle.dma_top.specs.declared.refusal.Refusal.TheVariants.{Policy}
use Rattle.dma_top.proofs.FilesRead.{file_means, file_refused, file_unread}
use Rattle.dma_top.proofs.reading.read_policy.Goals as goal

-- the file isn't read
pub returns-in_err-bytes-clause-err : goal.returns-in_err-bytes-clause-err
returns-in_err-bytes-clause-err g c =
    let left = err_from_is_err_and c.from_residual.result c.from_residual.ensures.1 in
    rw (left.1, left.2) (file_unread c.args.name.now POLICY_MOST lawful_policy_of Policy _ _ _ c.in_err-bytes.field-0.0 c.in_err-bytes.ensures.err)

pub returns-in-Ok-clause-ok : goal.returns-in-Ok-clause-ok
returns-in-Ok-clause-ok g c =
    file_means c.args.name.now POLICY_MOST lawful_policy_of Policy _ _ _ c.in_ok-bytes.bytes c.in_ok-bytes.ensures.ok (source_of c.in-Ok.policy) (rw c.items.ensures at c.in-Ok.ensures)

pub returns-clause-err : goal.returns-clause-err
returns-clause-err g c =
    file_refused c.args.name.now POLICY_MOST lawful_policy_of Policy _ _ _ c.in_ok-bytes.bytes c.in_ok-bytes.ensures.ok NoMemory c.in-Err.refusal (rw c.items.ensures at c.in-Err.ensures) _ c.policy_error.ensures
