use Rattle.std.proofs.Common.{rules, ℕ, Option, ap, ◌+◌, ◌∙◌, length}
use Rattle.std.specs.List.{enumerate_from}
use Rattle.muen_num.specs.Search.{first_in}
use Rattle.policy_lawful.specs.declared.offence.Offence.{Offence}
use Rattle.policy_lawful.specs.declared.resolved.Subject.{Subject}
use Rattle.policy_lawful.specs.ByIndex.{provided_at}
use Rattle.policy_views.specs.Parts.{behind_at, front_at}
use Rattle.policy_views.proofs.SightsAtIndex.{first_sighted}
use Rattle.policy_rules.specs.Limits.{subject_limit_at, subject_limit_with}
use Rattle.policy_rules.proofs.Parted.{many_views}
use Rattle.policy_rules.proofs.limits.each_subject.Goals as goal

pub returns : goal.returns
returns c =
    let r = c.args.policy.now in
    let by : ℕ × Subject → Option Offence = λ x. subject_limit_with (length (front_at r x.0) + length (provided_at r.components x.1.component) + length (behind_at r x.0)) x.1 in
    c.first_numbered.ensures by (λ k x o l h. search rules)
    ∙ ap (λ ss. first_in by (enumerate_from 0 ss)) c.subjects.ensures.value
    ∙ first_sighted (λ front behind s. subject_limit_with (length front + length (provided_at r.components s.component) + length behind) s) (subject_limit_at r) r (λ s. ap (λ n. subject_limit_with n s) (many_views r s))
