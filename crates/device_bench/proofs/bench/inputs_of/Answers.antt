use Rattle.device_bench.proofs.ByTick.{run_then, ends_in_order}
use Rattle.device_bench.proofs.bench.inputs_of.Goals as goal

pub slice_bounds-result-count : goal.slice_bounds-result-count
slice_bounds-result-count c =
    let at = c.args.at in
    ends_in_order (λ i. i.tick) at.tick at.first at.past c.args.inputs.now c.requires.first.before.earlier c.requires.past.behind c.requires.first.before.within

pub slice_bounds-result-start : goal.slice_bounds-result-start
slice_bounds-result-start c =
    let at = c.args.at in
    ends_in_order (λ i. i.tick) at.tick at.first at.past c.args.inputs.now c.requires.first.before.earlier c.requires.past.behind c.requires.first.before.within

pub returns : goal.returns
returns c =
    let at = c.args.at in
    run_then (λ i. i.tick) at.tick at.first at.past c.args.inputs.now c.requires.first.before.earlier c.requires.first.behind c.requires.past.before.earlier c.requires.past.behind c.requires.first.before.within
