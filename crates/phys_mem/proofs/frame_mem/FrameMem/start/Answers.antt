use Rattle.std.proofs.Common.{◌≡◌, ◌^◌, ◌<◌, length, List, ℕ, arith, subst, sym}
use Rattle.std.specs.List.{All}
use Rattle.phys_mem.proofs.FrameLaws.{added_to_none}
use Rattle.phys_mem.proofs.Rising.{numbers_low}
use Rattle.phys_mem.proofs.frame_mem.FrameMem.start.Goals as goal

pub of-requires : goal.of-requires
of-requires c =
    let ns = c.add_spans.new.numbers in
    let fs = c.add_spans.new.frames in
    let same : length ns.items ≡ length fs.items = omega (arith, ns.ok.0, fs.ok.0, c.in_ok-add_spans.ensures.paired) in
    subst (λ (xs : List ℕ). All (λ n. n < 2 ^ 28) xs) (sym c.as_slice.ensures.value) (numbers_low ns.items fs.items c.args.spans.items c.requires same (added_to_none _ _ _ _ (omega (arith, c.new-numbers.ensures.len, c.new-numbers.result.ok.0)) c.in_ok-add_spans.ensures.pages))

pub returns : goal.returns
returns c =
    added_to_none _ _ _ _ (omega (arith, c.new-numbers.ensures.len, c.new-numbers.result.ok.0)) c.in_ok-add_spans.ensures.pages
