use Rattle.std.proofs.Common.{◌∙◌, sym, ap, subst}
use Rattle.image_checks.proofs.PlanTold.{lacks_choice, no_choice, other_choice, some_choice}
use Rattle.image_checks.proofs.plan.has_choice.Goals as goal
use Rattle.policy_lawful.specs.Resolution.{IsResolved, Resolution}
use Rattle.policy_lawful.specs.declared.resolved.Scheduling.{Scheduling}

pub returns-in-None-None-clause-choice : goal.returns-in-None-None-clause-choice
returns-in-None-None-clause-choice c =
    let same = c.scheduling.ensures.value ∙ ap (λ (r : Resolution). r.scheduling) c.resolved.ensures.value in
    no_choice c.args.lawful.now c.args.image.now c.in-None-None.is-0 (sym (ap (λ (s : Scheduling). s.tau0) same) ∙ c.in-None-None.is-1)

pub returns-in-Some-Some-clause-choice : goal.returns-in-Some-Some-clause-choice
returns-in-Some-Some-clause-choice c =
    let same = c.scheduling.ensures.value ∙ ap (λ (r : Resolution). r.scheduling) c.resolved.ensures.value in
    some_choice c.args.lawful.now c.args.image.now c.in-Some-Some.number c.in-Some-Some.chooser c.in-Some-Some.is-0
    (sym (ap (λ (s : Scheduling). s.tau0) same) ∙ c.in-Some-Some.is-1) c.has_tag.result c.has_tag.ensures

pub returns-in_default-clause-choice : goal.returns-in_default-clause-choice
returns-in_default-clause-choice c =
    let same = c.scheduling.ensures.value ∙ ap (λ (r : Resolution). r.scheduling) c.resolved.ensures.value in
    lacks_choice c.args.lawful.now c.args.image.now c.in_default.field-0-1 c.in_default.is-0 (sym (ap (λ (s : Scheduling). s.tau0) same) ∙ c.in_default.is-1)

pub returns-in_default-2-clause-choice : goal.returns-in_default-2-clause-choice
returns-in_default-2-clause-choice c =
    let same = c.scheduling.ensures.value ∙ ap (λ (r : Resolution). r.scheduling) c.resolved.ensures.value in
    other_choice c.args.lawful.now c.args.image.now c.in_default.field-0-0 c.in_default.is-0 (sym (ap (λ (s : Scheduling). s.tau0) same) ∙ c.in_default.is-1)

pub returns-in-None-None-clause-resolved : goal.returns-in-None-None-clause-resolved
returns-in-None-None-clause-resolved c = subst IsResolved c.resolved.ensures.value c.scheduling.ensures.resolved

pub returns-in-Some-Some-clause-resolved : goal.returns-in-Some-Some-clause-resolved
returns-in-Some-Some-clause-resolved c = subst IsResolved c.resolved.ensures.value c.scheduling.ensures.resolved

pub returns-in_default-clause-resolved : goal.returns-in_default-clause-resolved
returns-in_default-clause-resolved c = subst IsResolved c.resolved.ensures.value c.scheduling.ensures.resolved

pub returns-in_default-2-clause-resolved : goal.returns-in_default-2-clause-resolved
returns-in_default-2-clause-resolved c = subst IsResolved c.resolved.ensures.value c.scheduling.ensures.resolved
