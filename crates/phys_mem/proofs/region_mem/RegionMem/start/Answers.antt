use Rattle.std.proofs.Common.{◌≡◌, length, arith}
use Rattle.phys_mem.proofs.FrameLaws.{added_to_none}
use Rattle.phys_mem.proofs.Rising.{numbers_rise}
use Rattle.phys_mem.proofs.region_mem.RegionMem.start.Goals as goal

pub invariant_of-result-clause-rising : goal.invariant_of-result-clause-rising
invariant_of-result-clause-rising c =
    let ns = c.add_spans.new.numbers in
    let fs = c.add_spans.new.frames in
    let same : length ns.items ≡ length fs.items = omega (arith, ns.ok.0, fs.ok.0, c.in_ok-add_spans.ensures.paired) in
    numbers_rise ns.items fs.items c.args.spans.items c.requires same (added_to_none _ _ _ _ (omega (arith, c.new-numbers.ensures.len, c.new-numbers.result.ok.0)) c.in_ok-add_spans.ensures.pages)

pub returns : goal.returns
returns c =
    added_to_none _ _ _ _ (omega (arith, c.new-numbers.ensures.len, c.new-numbers.result.ok.0)) c.in_ok-add_spans.ensures.pages
