use Rattle.std.proofs.Common.{refl}
use Rattle.std.proofs.lemmas.Result.{err_from_is_err_and}
use Rattle.policy_lawful.specs.Resolution.{source_of}
use Rattle.muen_top.specs.Tables.{IsTablesFor}
use Rattle.muen_top.proofs.Images.{all_made, not_made, policy_not_read, policy_refused, some_mapped}
use Rattle.muen_top.proofs.build.built_of.Goals as goal

-- the policy's file isn't read
pub returns-in_err-document-clause-err : goal.returns-in_err-document-clause-err
returns-in_err-document-clause-err g c =
    let left = err_from_is_err_and c.from_residual.result c.from_residual.ensures.1 in
    rw (left.1, left.2) (λ image dma. policy_not_read _ image dma _ _ _ c.in_err-document.field-0.0 c.in_err-document.ensures.err)

-- the policy is refused
pub returns-in_err-placed-clause-err : goal.returns-in_err-placed-clause-err
returns-in_err-placed-clause-err g c =
    let left = err_from_is_err_and c.from_residual-in_err-placed.result c.from_residual-in_err-placed.ensures.1 in
    rw (left.1)
    (policy_refused _ _ _ _ _ _ c.load.ensures.held c.in_ok-document.document c.in_ok-document.ensures.ok c.in_err-placed.field-0.0 left.0 (rw c.items.ensures at c.in_err-placed.ensures.err) left.2)

-- memory was refused for the image
pub returns-in_err-image-clause-err : goal.returns-in_err-image-clause-err
returns-in_err-image-clause-err g c =
    let left = err_from_is_err_and c.from_residual-in_err-image.result c.from_residual-in_err-image.ensures.1 in
    rw (left.1, left.2)
    (not_made _ _ _ _ _ _ c.load.ensures.held c.in_ok-document.document c.in_ok-document.ensures.ok c.in_ok-placed.field-0.files c.in_ok-placed.ensures.looked (rw c.items.ensures at c.in_ok-placed.ensures.asked) _ refl)

-- .. or for the tables
pub returns-in_err-tables-clause-err : goal.returns-in_err-tables-clause-err
returns-in_err-tables-clause-err g c =
    let left = err_from_is_err_and c.from_residual-in_err-tables.result c.from_residual-in_err-tables.ensures.1 in
    rw (left.1, left.2)
    (not_made _ _ _ _ _ _ c.load.ensures.held c.in_ok-document.document c.in_ok-document.ensures.ok c.in_ok-placed.field-0.files c.in_ok-placed.ensures.looked (rw c.items.ensures at c.in_ok-placed.ensures.asked) _ refl)

-- all is made
pub returns-clause-ok : goal.returns-clause-ok
returns-clause-ok g c =
    all_made _ _ _ _ _ _ c.load.ensures.held c.in_ok-document.document c.in_ok-document.ensures.ok c.in_ok-placed.field-0.files c.in_ok-placed.ensures.looked (rw c.items.ensures at c.in_ok-placed.ensures.asked)
    (source_of c.in_ok-placed.field-0.placed.expanded.lawful) _ _ (rw c.items.ensures at c.in_ok-placed.ensures.accepts) (rw c.items-2.ensures at c.in_ok-image.ensures)
    (some_mapped (λ v. v.items) (IsTablesFor (source_of c.in_ok-placed.field-0.placed.expanded.lawful)) c.in_ok-tables.field-0 c.in_ok-tables.ensures.are)
