use Rattle.std.proofs.Common.{ap, arith, length}
use Rattle.image_emit.proofs.PagesMade.{all_made, none_made, one_more, there}
use Rattle.image_emit.proofs.image.all_pages.Goals as goal

pub loop-index-init : goal.loop-index-init
loop-index-init c = none_made c.args.placed.now c.new-all.result c.new-all.ensures

pub pages-requires-clause-subject : goal.pages-requires-clause-subject
pages-requires-clause-subject c =
    let many = ap length c.subjects_of-subjects.ensures in
    let low = c.loop-index-test.true in
    there c.subjects_of-subjects.result.now c.args.placed.now.expanded.lawful.subjects c.loop-index.index c.index-subjects-index.result c.subjects_of-subjects.ensures (omega (arith, many, low)) c.index-subjects-index.is

pub pages-requires-clause-granted : goal.pages-requires-clause-granted
pages-requires-clause-granted c =
    let many = ap length c.subjects_of-subjects.ensures in
    let low = c.loop-index-test.true in
    let same = c.requires.as_many in
    there c.grants_of-grants.result.now c.args.placed.now.expanded.grants c.loop-index.index c.index-grants-index.result c.grants_of-grants.ensures (omega (arith, many, low, same)) c.index-grants-index.is

pub loop-index-preserved : goal.loop-index-preserved
loop-index-preserved c =
    let many = ap length c.subjects_of-subjects.ensures in
    let low = c.loop-index-test.true in
    let same = c.requires.as_many in
    one_more c.args.placed.now c.loop-index.index c.index-subjects-index.result c.index-grants-index.result _ c.loop-index.all _
    (there c.subjects_of-subjects.result.now c.args.placed.now.expanded.lawful.subjects c.loop-index.index c.index-subjects-index.result c.subjects_of-subjects.ensures (omega (arith, many, low)) c.index-subjects-index.is)
    (there c.grants_of-grants.result.now c.args.placed.now.expanded.grants c.loop-index.index c.index-grants-index.result c.grants_of-grants.ensures (omega (arith, many, low, same)) c.index-grants-index.is)
    c.loop-index.invariant c.in_ok-of_subject.ensures c.in_ok-push.ensures.ok

pub returns : goal.returns
returns c =
    let many = ap length c.subjects_of-subjects.ensures in
    all_made c.args.placed.now c.loop-index.index c.loop-index.all (let stop = c.loop-index-test.false in omega (arith, many, stop)) c.requires.as_many c.loop-index.invariant
