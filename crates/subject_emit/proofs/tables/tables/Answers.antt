use Rattle.std.proofs.Common.{◌+◌, ◌∙◌, ap, arith, length, get_or}
use Rattle.expand_kernel.specs.ByIndex.{kernel_first}
use Rattle.subject_emit.proofs.TablesReady.{ready, region_size, region_there, subject_there}
use Rattle.subject_emit.proofs.tables.tables.Goals as goal

pub kernel_first-first-requires : goal.kernel_first-first-requires
kernel_first-first-requires c =
    let there = subject_there c.args.placed.now c.expanded-expanded.ensures.placed c.args.subject c.args.granted.now c.requires.granted in
    let same = ap (λ e. length e.lawful.subjects) c.expanded-expanded.ensures.value in
    omega (arith, there, same)

pub number-requires : goal.number-requires
number-requires c =
    let first = c.kernel_first-first.ensures ∙ ap (λ e. kernel_first e.lawful c.args.subject) c.expanded-expanded.ensures.value in
    let regions = ap length (c.regions-regions.ensures.value ∙ ap (λ e. e.regions) c.expanded-expanded.ensures.value) in
    let there = region_there c.args.placed.now c.expanded-expanded.ensures.placed c.args.subject c.args.granted.now c.requires.granted in
    omega (arith, first, there, regions)

pub bounds-regions-number : goal.bounds-regions-number
bounds-regions-number c =
    let first = c.kernel_first-first.ensures ∙ ap (λ e. kernel_first e.lawful c.args.subject) c.expanded-expanded.ensures.value in
    let regions = ap length (c.regions-regions.ensures.value ∙ ap (λ e. e.regions) c.expanded-expanded.ensures.value) in
    let there = region_there c.args.placed.now c.expanded-expanded.ensures.placed c.args.subject c.args.granted.now c.requires.granted in
    omega (arith, c.number.ensures, first, there, regions)

pub offset_bounds-regions-number : goal.offset_bounds-regions-number
offset_bounds-regions-number c =
    let first = c.kernel_first-first.ensures ∙ ap (λ e. kernel_first e.lawful c.args.subject) c.expanded-expanded.ensures.value in
    let regions = ap length (c.regions-regions.ensures.value ∙ ap (λ e. e.regions) c.expanded-expanded.ensures.value) in
    let there = region_there c.args.placed.now c.expanded-expanded.ensures.placed c.args.subject c.args.granted.now c.requires.granted in
    omega (arith, c.number.ensures, first, there, regions)

pub emitted-requires-clause-ready : goal.emitted-requires-clause-ready
emitted-requires-clause-ready c = ready c.args.placed.now c.expanded-expanded.ensures.placed c.args.subject c.args.granted.now c.requires.granted

pub emitted-requires-clause-bytes : goal.emitted-requires-clause-bytes
emitted-requires-clause-bytes c =
    let first = c.kernel_first-first.ensures ∙ ap (λ e. kernel_first e.lawful c.args.subject) c.expanded-expanded.ensures.value in
    let regions = c.regions-regions.ensures.value ∙ ap (λ e. e.regions) c.expanded-expanded.ensures.value in
    let number = c.number.ensures ∙ ap (λ n. n + 1) first in
    ap (λ r. r.size) (c.index-regions-number.is ∙ (λ i. get_or (regions i) (number i) c.index-regions-number.result))
    ∙ region_size c.args.placed.now c.expanded-expanded.ensures.placed c.args.subject c.args.granted.now c.requires.granted c.index-regions-number.result
