use Rattle.std.proofs.Common.{◌++◌, ap, rules}
use Rattle.flow_report.specs.TextByIndex.{flow_line_at, line_end, line_start, members_text}
use Rattle.flow_report.proofs.NumberedTexts.{numbered_exit}
use Rattle.flow_report.proofs.text.put_lines.Goals as goal

pub returns-in_err-put_line : goal.returns-in_err-put_line
returns-in_err-put_line g c =
    let s = c.index-subjects-index.result in (
      search rules,
      numbered_exit (flow_line_at c.args.subjects.now c.args.sets.now) c.args.subjects.now c.loop-index.index s _ _ _ _ _ c.from_residual.ensures.0 c.loop-index.invariant.1 c.in_err-put_line.ensures.1 c.loop-index-test.true c.index-subjects-index.is
          (ap (λ set. line_start s.name ++ members_text set c.args.subjects.now ++ line_end) c.marks_at.ensures),
    )
