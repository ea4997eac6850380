use Rattle.std.proofs.Common.{sym}
use Rattle.std.proofs.lemmas.Result.{IfErr-weaker, IfOk-weaker}
use Rattle.muen_build.specs.Accepting.{given_files, looks_of}
use Rattle.muen_build.proofs.Looks.{grows_not}
use Rattle.muen_build.proofs.Steps.{given_known, given_stops, new_grows, new_known, new_stops, not_found, of_found}
use Rattle.muen_build.proofs.contents.file_length.Goals as goal

-- one that is given
pub returns-in-Some-clause-grows : goal.returns-in-Some-clause-grows
returns-in-Some-clause-grows g c = IfOk-weaker c.own_length.result _ _ (λ count own. grows_not (given_files c.args.given.now) _ _ _ (looks_of c.args.found.now)) c.own_length.ensures.ok

pub returns-in-Some-clause-known : goal.returns-in-Some-clause-known
returns-in-Some-clause-known g c =
    IfOk-weaker c.own_length.result _ _ (λ count own. given_known (given_files c.args.given.now) c.args.file c.in-Some.bytes.now (sym c.in-Some.ensures) (looks_of c.args.found.now) count own.0 own.1) c.own_length.ensures.ok

pub returns-in-Some-clause-err : goal.returns-in-Some-clause-err
returns-in-Some-clause-err g c =
    IfErr-weaker c.own_length.result _ _ (λ error own. given_stops (given_files c.args.given.now) c.args.file c.in-Some.bytes.now (sym c.in-Some.ensures) _ _ (looks_of c.args.found.now) error own.0 own.1) c.own_length.ensures.err

-- one that was read before
pub returns-in-Some-length-clause-grows : goal.returns-in-Some-length-clause-grows
returns-in-Some-length-clause-grows g c = grows_not (given_files c.args.given.now) _ _ _ (looks_of c.args.found.now)

pub returns-in-Some-length-clause-known : goal.returns-in-Some-length-clause-known
returns-in-Some-length-clause-known g c = of_found (given_files c.args.given.now) c.args.found.now c.args.file (sym c.in_default.ensures) c.in-Some-length.length (sym c.in-Some-length.ensures)

-- one that is looked at now
pub returns-in-None-clause-grows : goal.returns-in-None-clause-grows
returns-in-None-clause-grows g c =
    IfOk-weaker c.read_new.result _ _ (λ count a. new_grows (given_files c.args.given.now) c.args.found.now c.args.file (sym c.in_default.ensures) (not_found c.args.found.now c.args.file (sym c.in-None.ensures)) _ _ _ c.read_new.new.found count a) c.read_new.ensures.ok

pub returns-in-None-clause-known : goal.returns-in-None-clause-known
returns-in-None-clause-known g c =
    IfOk-weaker c.read_new.result _ _ (λ count a. new_known (given_files c.args.given.now) c.args.found.now c.args.file (sym c.in_default.ensures) (not_found c.args.found.now c.args.file (sym c.in-None.ensures)) _ _ _ c.read_new.new.found count a) c.read_new.ensures.ok

pub returns-in-None-clause-err : goal.returns-in-None-clause-err
returns-in-None-clause-err g c =
    IfErr-weaker c.read_new.result _ _ (λ error e. new_stops (given_files c.args.given.now) c.args.found.now c.args.file (sym c.in_default.ensures) (not_found c.args.found.now c.args.file (sym c.in-None.ensures)) _ _ _ error e) c.read_new.ensures.err
