use Rattle.std.proofs.Common.{◌≡◌, ap, ◌∙◌, subst}
use Rattle.muen_outside.specs.Prints.{Prints}
use Rattle.policy_lawful.specs.Resolution.{source_of}
use Rattle.flow_report.specs.FlowText.{flow_text_of}
use Rattle.flow_report.specs.TextByIndex.{lines_text}
use Rattle.flow_report.proofs.TextOfFlows.{text_same}
use Rattle.flow_report.proofs.text.put_text.Goals as goal

pub returns : goal.returns
returns g c =
    let subjects = c.subjects.ensures.value ∙ ap (λ r. r.subjects) c.resolved.ensures.value in
    let same : lines_text c.subjects.result.now c.sets.result.now ≡ flow_text_of (source_of c.args.policy.now) =
    (λ i. lines_text (subjects i) (c.sets.ensures i)) ∙ text_same c.args.policy.now c.args.flows.now c.requires in
    subst (λ text. Prints g.S.Sink.state text c.args.out.now c.put_lines.new.out c.put_lines.result) same c.put_lines.ensures
