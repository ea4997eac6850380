use Rattle.std.proofs.Common.{◌+◌, ◌∙◌, ap₂, false, sym, arith}
use Rattle.msrbm_emit.proofs.AreaLaws.{count_more}
use Rattle.image_emit.proofs.Counting.{count_most, count_none}
use Rattle.image_emit.proofs.subjects.count_of.Goals as goal

pub loop-grant-init : goal.loop-grant-init
loop-grant-init c = count_none

pub overflow_add-count : goal.overflow_add-count
overflow_add-count c =
    let i = c.loop-grant.grant-index in
    let step = count_more c.args.msrs.now i (record { start = 0; end = 0; read = false; write = false }) c.loop-grant-test.true in
    let most = count_most c.args.msrs.now (i + 1) in
    let inv = c.loop-grant.invariant in
    let size = c.size_of-count.ensures in
    let few = c.requires in
    omega (arith, step, most, inv, size, few)

pub loop-grant-preserved : goal.loop-grant-preserved
loop-grant-preserved c =
    ap₂ (λ a b. a + b) c.loop-grant.invariant c.size_of-count.ensures ∙ sym (count_more c.args.msrs.now c.loop-grant.grant-index _ c.loop-grant-test.true)
