use Rattle.std.proofs.Common.{◌≡◌, ◌++◌, ap, ◌∙◌, arith}
use Rattle.std.specs.Prelude.{codes}
use Rattle.std.specs.List.{flat_map}
use Rattle.muen_num.specs.Range.{numbers_below}
use Rattle.generated_system.proofs.Lines.{all_text}
use Rattle.generated_system.specs.RecordText.{lines_in, with_line_feed}
use Rattle.generated_system.proofs.record.record.Goals as goal

pub returns : goal.returns
returns c =
    let last : c.loop-j.j ≡ 200 = omega arith in
    c.in_ok-extend_from_slice.ensures.items
    ∙ ap (λ t. t ++ codes "end 20000\n") (c.loop-j.invariant ∙ ap (λ j. flat_map with_line_feed (flat_map (lines_in c.args.number) (numbers_below j))) last)
    ∙ all_text c.args.number
