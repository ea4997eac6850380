use Rattle.std.proofs.lemmas.Result.{IfErr-weaker, IfOk-weaker}
use Rattle.muen_top.specs.FilesSeen.{unknown}
use Rattle.muen_top.proofs.FilesSeen.{copy_known, known_read, not_read_after, not_within}
use Rattle.muen_top.proofs.loading.load_too.Goals as goal

-- the bytes are known

pub returns-in_ok-copy-in-Some-clause-ok : goal.returns-in_ok-copy-in-Some-clause-ok
returns-in_ok-copy-in-Some-clause-ok g c looks known =
    let there = rw c.in-Some.is at known in
    IfOk-weaker c.within.result _ _
    (λ found is. known_read looks _ _ _ _ c.in_ok-copy-in-Some.field-0 found (copy_known looks _ c.args.most (g.F.Files.held c.args.files.now) _ _ c.in_ok-copy-in-Some.ensures there) is) c.within.ensures.ok

pub returns-in_ok-copy-in-Some-clause-err : goal.returns-in_ok-copy-in-Some-clause-err
returns-in_ok-copy-in-Some-clause-err g c looks known =
    let there = rw c.in-Some.is at known in
    IfErr-weaker c.within.result _ _
    (λ error is. not_within looks _ _ _ _ c.in_ok-copy-in-Some.field-0 (copy_known looks _ c.args.most (g.F.Files.held c.args.files.now) _ _ c.in_ok-copy-in-Some.ensures there) error is) c.within.ensures.err

-- they aren't

pub returns-in-None-clause-ok : goal.returns-in-None-clause-ok
returns-in-None-clause-ok g c looks known =
    let others = rw c.in-None.is at known in
    IfOk-weaker c.load.result _ _ (λ bytes saw. unknown others saw) c.load.ensures.ok

pub returns-in-None-clause-err : goal.returns-in-None-clause-err
returns-in-None-clause-err g c looks known =
    let others = rw c.in-None.is at known in
    IfErr-weaker c.load.result _ _ (λ error h. not_read_after looks _ _ _ _ _ error others h) c.load.ensures.err
