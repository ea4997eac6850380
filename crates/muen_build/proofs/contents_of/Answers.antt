use Rattle.std.proofs.lemmas.Result.{err_from_is_err_and}
use Rattle.policy_lawful.specs.Resolution.{source_of}
use Rattle.muen_build.specs.Accepting.{given_files}
use Rattle.muen_build.proofs.Accepting.{has_contents, lacks_contents, no_memory}
use Rattle.muen_build.proofs.contents_of.Goals as goal

pub returns-in_err-found-clause-err : goal.returns-in_err-found-clause-err
returns-in_err-found-clause-err g c =
    let left = err_from_is_err_and c.from_residual.result c.from_residual.ensures.1 in
    rw (left.1, left.2) (lacks_contents (given_files c.args.given.now) _ _ _ (source_of c.args.policy.now) c.in_err-found.field-0.0 c.in_err-found.ensures.err)

pub returns-in_err-bytes-clause-err : goal.returns-in_err-bytes-clause-err
returns-in_err-bytes-clause-err g c =
    let left = err_from_is_err_and c.from_residual-in_err-bytes.result c.from_residual-in_err-bytes.ensures.1 in
    rw (left.1, left.2) (no_memory (given_files c.args.given.now) _ _ _ (source_of c.args.policy.now) c.in_ok-found.found c.in_ok-found.ensures.grows)

pub returns-clause-ok : goal.returns-clause-ok
returns-clause-ok g c =
    has_contents (given_files c.args.given.now) _ _ _ c.args.policy.now (rw c.resolved.ensures.value at c.in_ok-bytes.ensures.declared) c.in_ok-found.found c.in_ok-bytes.bytes c.in_ok-found.ensures.grows c.in_ok-found.ensures.passes
    (rw c.resolved.ensures.value at c.in_ok-bytes.ensures.things)
