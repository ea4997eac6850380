use Rattle.std.proofs.Common.{◌≡◌, ◌++◌, map, sym, ap, ◌∙◌}
use Rattle.std.specs.List.{zip}
use Rattle.std.proofs.lemmas.Slice.Zip.{either_empty_from_Zip}
use Rattle.image_verify.proofs.InTurn.{all_made}
use Rattle.image_verify.proofs.SameTables.{same_tables_by_number}
use Rattle.image_verify.specs.ByNumber.{tables_by_number, tables_granted}
use Rattle.image_verify.proofs.windows.subject_tables.Goals as goal

pub loop-granted-init : goal.loop-granted-init
unfolding tables_by_number
loop-granted-init c =
    let grants : c.grants-grants.result.now ≡ c.into_iter-granted-iterator.result.a.rest.now = cc in
    let parts : c.items-parts.result.now ≡ c.into_iter-granted-iterator.result.b.rest.now = cc in
    let x = sym c.grants-grants.ensures.value ∙ grants in
    let i = sym (c.items-parts.ensures ∙ ap (λ i. i.subjects) c.image.ensures.same) ∙ parts in
    (λ j. sym c.new-tables.ensures.items j ++ map (tables_granted c.args.image.now) (zip (x j) (i j)))

pub returns : goal.returns
returns c =
    let x = c.args.expanded.now in
    let i = c.args.image.now in
    let made : c.loop-granted.tables.items ≡ tables_by_number x.grants i =
    all_made i (tables_by_number x.grants i) _ _ c.loop-granted.tables.items c.loop-granted.invariant
    (either_empty_from_Zip c.loop-granted.granted-iterator c.next.new.self c.next.result c.in-None.is c.next.ensures.steps) in
    record { tables = λ files contents many. made ∙ same_tables_by_number x files i c.grants-grants.ensures.expanded contents many; expanded = c.grants-grants.ensures.expanded }
