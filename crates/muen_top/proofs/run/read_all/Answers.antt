use Rattle.std.proofs.Common.{subst, sym}
use Rattle.std.proofs.lemmas.Result.{err_from_is_err_and}
use Rattle.muen_top.specs.Commands.{run}
use Rattle.muen_top.specs.Loads.{IsKnown}
use Rattle.muen_top.proofs.Recorded.{record_not_read, record_read, record_refused_so}
use Rattle.muen_top.proofs.run.read_all.Goals as goal

-- the image isn't read, or the tables aren't
pub returns-in_err-ready-clause-err : goal.returns-in_err-ready-clause-err
returns-in_err-ready-clause-err g c =
    let left = err_from_is_err_and c.from_residual.result c.from_residual.ensures.1 in
    rw (left.1, left.2) (c.in_err-ready.ensures.err _)

-- the record's file isn't read
pub returns-in_err-bytes-clause-err : goal.returns-in_err-bytes-clause-err
returns-in_err-bytes-clause-err g c =
    let left = err_from_is_err_and c.from_residual-in_err-bytes.result c.from_residual-in_err-bytes.ensures.1 in
    let ready = c.in_ok-ready.ensures.ok in
    let there = rw c.items.ensures at c.known_before-known.ensures in
    rw (left.1, left.2)
    (record_not_read (λ inputs. run c.args.image.now inputs _) c.args.inputs.now _ _ _ _ _ c.ready.ensures.held _ _ _ ready c.in_err-bytes.field-0.0 (c.in_err-bytes.ensures.err ready.looks (subst (IsKnown ready.looks c.args.inputs.now) (sym there) (ready.known c.args.inputs.now))))

-- the record is refused
pub returns-in_err-input-clause-err : goal.returns-in_err-input-clause-err
returns-in_err-input-clause-err g c =
    let left = err_from_is_err_and c.from_residual-in_err-input.result c.from_residual-in_err-input.ensures.1 in
    let ready = c.in_ok-ready.ensures.ok in
    let there = rw c.items.ensures at c.known_before-known.ensures in
    rw (left.1)
    (record_refused_so (λ inputs. run c.args.image.now inputs _) c.args.inputs.now _ _ _ _ _ c.ready.ensures.held _ _ _ ready c.in_ok-bytes.bytes (c.in_ok-bytes.ensures.ok ready.looks (subst (IsKnown ready.looks c.args.inputs.now) (sym there) (ready.known c.args.inputs.now)))
    c.in_err-input.field-0.0 left.0 (rw c.items-2.ensures at c.in_err-input.ensures.exact) left.2)

-- all is read
pub returns-clause-ok : goal.returns-clause-ok
returns-clause-ok g c =
    let ready = c.in_ok-ready.ensures.ok in
    let there = rw c.items.ensures at c.known_before-known.ensures in
    rw c.tables_of.ensures (record_read (λ inputs. run c.args.image.now inputs _) c.args.inputs.now _ _ _ _ _ c.ready.ensures.held _ _ _ ready c.in_ok-bytes.bytes (c.in_ok-bytes.ensures.ok ready.looks (subst (IsKnown ready.looks c.args.inputs.now) (sym there) (ready.known c.args.inputs.now)))
    c.in_ok-input.input (rw c.items-2.ensures at c.in_ok-input.ensures.exact))
