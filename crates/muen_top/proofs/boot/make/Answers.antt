use Rattle.std.proofs.lemmas.Result.{err_from_is_err_and}
use Rattle.policy_lawful.specs.Resolution.{source_of}
use Rattle.muen_top.specs.Loads.{refused, unmade}
use Rattle.muen_top.proofs.TablesFit.{tables_fit}
use Rattle.muen_top.proofs.boot.make.Goals as goal

-- the policy isn't accepted
pub returns-in_err-placed-clause-err : goal.returns-in_err-placed-clause-err
returns-in_err-placed-clause-err g c =
    let left = err_from_is_err_and c.from_residual.result c.from_residual.ensures.1 in
    rw (left.1) (refused c.in_err-placed.field-0.0 c.in_err-placed.ensures.err left.2)

-- memory was refused for its image
pub returns-in_err-parts-clause-err : goal.returns-in_err-parts-clause-err
returns-in_err-parts-clause-err g c =
    let left = err_from_is_err_and c.from_residual-in_err-parts.result c.from_residual-in_err-parts.ensures.1 in
    rw (left.1, left.2) (unmade c.in_ok-placed.field-0.files c.in_ok-placed.ensures.looked c.in_ok-placed.ensures.asked c.in_err-parts.ensures.err)

-- .. or for its tables
pub returns-in_err-tables-clause-err : goal.returns-in_err-tables-clause-err
returns-in_err-tables-clause-err g c =
    let left = err_from_is_err_and c.from_residual-in_err-tables.result c.from_residual-in_err-tables.ensures.1 in
    rw (left.1, left.2) (unmade c.in_ok-placed.field-0.files c.in_ok-placed.ensures.looked c.in_ok-placed.ensures.asked (λ files s. tt))

-- it is made
pub returns-clause-ok : goal.returns-clause-ok
returns-clause-ok g c =
    record {
      source = source_of c.in_ok-placed.field-0.placed.expanded.lawful;
      looked = c.in_ok-placed.ensures.looked;
      asked = c.in_ok-placed.ensures.asked;
      accepts = c.in_ok-placed.ensures.accepts;
      back = λ files s. let b = c.in_ok-parts.ensures.ok files s in (b.0, tables_fit _ _ c.in_ok-tables.ensures _ _ b.0 b.1);
    }
