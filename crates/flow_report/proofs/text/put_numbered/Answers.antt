use Rattle.std.proofs.Common.{ap, rules}
use Rattle.flow_report.specs.TextByIndex.{member_at, member_text}
use Rattle.flow_report.proofs.NumberedTexts.{numbered_exit}
use Rattle.flow_report.proofs.text.put_numbered.Goals as goal

pub returns-in_err-put_member : goal.returns-in_err-put_member
returns-in_err-put_member g c =
    let s = c.index-subjects-index.result in (
      search rules,
      numbered_exit (member_at c.args.set.now) c.args.subjects.now c.loop-index.index s _ _ _ _ _ c.from_residual.ensures.0 c.loop-index.invariant.1 c.in_err-put_member.ensures.1 c.loop-index-test.true c.index-subjects-index.is
          (ap (λ b. member_text b s.name) c.is_marked.ensures),
    )
