use Rattle.std.proofs.Common.{rules, ℕ, Option, ap, ◌∙◌}
use Rattle.std.specs.List.{enumerate_from}
use Rattle.std.specs.Option.{option_or}
use Rattle.muen_num.specs.Search.{first_in}
use Rattle.policy_lawful.specs.declared.offence.Offence.{Offence}
use Rattle.policy_lawful.specs.declared.resolved.Subject.{Subject}
use Rattle.policy_views.specs.Parts.{behind_at, front_at}
use Rattle.policy_views.proofs.SightsAtIndex.{first_sighted}
use Rattle.rules_extents.specs.Windows.{outside, outside_in_subject}
use Rattle.rules_extents.proofs.Parted.{outside_parted}
use Rattle.rules_extents.proofs.windows.outside.Goals as goal

pub returns : goal.returns
returns c =
    let r = c.args.policy.now in
    let by : ℕ × Subject → Option Offence = λ x. option_or (first_in (outside x.1.name) (front_at r x.0)) (first_in (outside x.1.name) (behind_at r x.0)) in
    c.first_numbered.ensures by (λ k x o l h. search rules)
    ∙ ap (λ ss. first_in by (enumerate_from 0 ss)) c.subjects.ensures.value
    ∙ first_sighted (λ front behind s. option_or (first_in (outside s.name) front) (first_in (outside s.name) behind)) (outside_in_subject r) r (λ s. outside_parted r s c.requires)
