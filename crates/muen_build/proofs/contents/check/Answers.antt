use Rattle.std.proofs.Common.{ap, sym, ◌∙◌}
use Rattle.std.proofs.lemmas.Result.{err_from_is_err_and}
use Rattle.policy_lawful.specs.Things.{content_told}
use Rattle.muen_build.specs.Accepting.{given_files, looks_of}
use Rattle.muen_build.proofs.Checking.{file_grows, inline_stops, long_stops, missing_stops}
use Rattle.muen_build.proofs.contents.check.Goals as goal

pub returns-in_err-fits-in-Inline-clause-err : goal.returns-in_err-fits-in-Inline-clause-err
returns-in_err-fits-in-Inline-clause-err g c =
    let left = err_from_is_err_and c.from_residual.result c.from_residual.ensures.1 in
    let is = ap content_told (sym c.in-Some.ensures) ∙ c.in-Inline.is in
    rw (left.1, left.2) (inline_stops (given_files c.args.given.now) c.args.policy.now c.args.thing.now _ is _ _ _ _ (rw c.len.ensures at c.in_err-fits-in-Inline.ensures))

pub returns-in_err-count-in-File-clause-err : goal.returns-in_err-count-in-File-clause-err
returns-in_err-count-in-File-clause-err g c =
    let left = err_from_is_err_and c.from_residual-in_err-count-in-File.result c.from_residual-in_err-count-in-File.ensures.1 in
    let is = ap content_told (sym c.in-Some.ensures) ∙ c.in-File.is in
    rw (left.1, left.2) (missing_stops (given_files c.args.given.now) c.args.policy.now c.args.thing.now _ _ _ is _ _ _ _ _ c.in_err-count-in-File.ensures.err)

pub returns-in_err-fits-in-File-clause-err : goal.returns-in_err-fits-in-File-clause-err
returns-in_err-fits-in-File-clause-err g c =
    let left = err_from_is_err_and c.from_residual-in_err-fits-in-File.result c.from_residual-in_err-fits-in-File.ensures.1 in
    let is = ap content_told (sym c.in-Some.ensures) ∙ c.in-File.is in
    rw (left.1, left.2)
    (long_stops (given_files c.args.given.now) c.args.policy.now c.args.thing.now _ _ _ is _ (looks_of c.file_length.new.found) c.in_ok-count-in-File.ensures.known (looks_of c.args.found.now) _ _ _ _
    c.in_ok-count-in-File.ensures.grows (rw c.part_length.ensures at c.in_err-fits-in-File.ensures))

pub returns-in_ok-fits-in-File-clause-grows : goal.returns-in_ok-fits-in-File-clause-grows
returns-in_ok-fits-in-File-clause-grows g c =
    let is = ap content_told (sym c.in-Some.ensures) ∙ c.in-File.is in
    file_grows (given_files c.args.given.now) c.args.policy.now c.args.thing.now _ _ _ is _ _ _ _ _ c.in_ok-count-in-File.ensures.grows
