use Rattle.std.proofs.Common.{◌≡◌, ◌∙◌, ap, arith, length, get_or}
use Rattle.image_emit.proofs.PartsMade.{all_made, at_subject, cpu_fits, msrs_fit, none_made, some_left}
use Rattle.image_emit.proofs.subjects.subject_parts.Goals as goal

pub loop-tables-init : goal.loop-tables-init
loop-tables-init c =
    let left = c.into_iter-tables-iterator.ensures.into_iter_gives.0 ∙ c.into_vec-tables-items.ensures in
    rw (left, c.new-parts.ensures) (none_made c.args.placed.now c.args.events)

pub bounds-subjects-index : goal.bounds-subjects-index
bounds-subjects-index c =
    let l = some_left c.args.placed.now c.args.events _ _ _ _ c.len-index.result c.loop-tables.invariant c.in-Some.ensures.steps.0 c.requires.as_many c.len-index.ensures in
    rw c.subjects_of-subjects.ensures l

pub offset_bounds-subjects-index : goal.offset_bounds-subjects-index
offset_bounds-subjects-index c =
    let l = some_left c.args.placed.now c.args.events _ _ _ _ c.len-index.result c.loop-tables.invariant c.in-Some.ensures.steps.0 c.requires.as_many c.len-index.ensures in
    let few = c.requires.few.subjects in
    omega (arith, l, few)

pub bounds-grants-index : goal.bounds-grants-index
bounds-grants-index c =
    let l = some_left c.args.placed.now c.args.events _ _ _ _ c.len-index.result c.loop-tables.invariant c.in-Some.ensures.steps.0 c.requires.as_many c.len-index.ensures in
    let same = c.requires.few.grants in
    rw c.grants_of-grants.ensures (omega (arith, l, same))

pub offset_bounds-grants-index : goal.offset_bounds-grants-index
offset_bounds-grants-index c =
    let l = some_left c.args.placed.now c.args.events _ _ _ _ c.len-index.result c.loop-tables.invariant c.in-Some.ensures.steps.0 c.requires.as_many c.len-index.ensures in
    let few = c.requires.few.subjects in
    omega (arith, l, few)

pub subject_part-part-requires-clause-there : goal.subject_part-part-requires-clause-there
subject_part-part-requires-clause-there c = some_left c.args.placed.now c.args.events _ _ _ _ c.len-index.result c.loop-tables.invariant c.in-Some.ensures.steps.0 c.requires.as_many c.len-index.ensures

pub subject_part-part-requires-clause-cpu : goal.subject_part-part-requires-clause-cpu
subject_part-part-requires-clause-cpu c =
    let l = some_left c.args.placed.now c.args.events _ _ _ _ c.len-index.result c.loop-tables.invariant c.in-Some.ensures.steps.0 c.requires.as_many c.len-index.ensures in
    let small = cpu_fits c.args.placed.now c.len-index.result c.index-subjects-index.result c.requires.few l in
    let here = ap (λ s. s.cpu) (c.index-subjects-index.is ∙ ap (λ ss. get_or ss c.len-index.result c.index-subjects-index.result) c.subjects_of-subjects.ensures) in
    omega (arith, small, here)

pub subject_part-part-requires-clause-msrs : goal.subject_part-part-requires-clause-msrs
subject_part-part-requires-clause-msrs c =
    let l = some_left c.args.placed.now c.args.events _ _ _ _ c.len-index.result c.loop-tables.invariant c.in-Some.ensures.steps.0 c.requires.as_many c.len-index.ensures in
    let same = c.requires.few.grants in
    let small = msrs_fit c.args.placed.now c.len-index.result c.index-grants-index.result c.requires.few (omega (arith, l, same)) in
    let here = c.index-grants-index.is ∙ ap (λ gs. get_or gs c.len-index.result c.index-grants-index.result) c.grants_of-grants.ensures in
    rw here small

pub loop-tables-preserved : goal.loop-tables-preserved
loop-tables-preserved c =
    at_subject c.args.placed.now c.args.events _ _ _ _ _ _ _ _ _ _ _ c.requires.few c.requires.as_many c.len-index.ensures c.in-Some.ensures.steps.0 c.subjects_of-subjects.ensures c.grants_of-grants.ensures
    c.index-subjects-index.is c.index-grants-index.is c.subject_part-part.ensures c.in_ok-push.ensures.ok c.loop-tables.invariant

pub returns : goal.returns
returns c =
    let none : length c.loop-tables.tables-iterator.rest.items ≡ 0 = omega (arith, c.loop-tables.tables-iterator.rest.ok.0, c.in-None.ensures.steps.0) in
    all_made c.args.placed.now c.args.events _ c.loop-tables.parts none c.loop-tables.invariant
