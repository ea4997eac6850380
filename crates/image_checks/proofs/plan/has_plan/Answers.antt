use Rattle.std.proofs.Common.{◌≡◌, ◌∙◌, ap, subst, sym, length}
use Rattle.image_checks.proofs.PlanTold.{other_cpus, plan_told, plan_whole}
use Rattle.image_checks.proofs.SpansOfNumbers.{as_many}
use Rattle.image_checks.proofs.plan.has_plan.Goals as goal
use Rattle.image_checks.specs.Firsts.{Decides}
use Rattle.image_checks.specs.PlanFault.{HasChoice}
use Rattle.image_pack.specs.declared.parts.Image.{Image}
use Rattle.image_soundness.specs.PlanOf.{IsPlanOf}
use Rattle.policy_lawful.specs.Resolution.{Resolution, source_of}
use Rattle.policy_lawful.specs.source.Processor.{Processor}

pub has_choice-requires : goal.has_choice-requires
has_choice-requires c =
    subst (λ (i : Image). length i.contents ≡ length i.spans) (sym c.image-image.ensures.same) (as_many c.args.parts.now c.image-image.ensures.parts)

pub returns-then-not-has_choice : goal.returns-then-not-has_choice
returns-then-not-has_choice c = λ h.
    let other : HasChoice (source_of c.args.lawful.now) c.image-image.result.now → ⊥ = rw c.if-not-has_choice.true at c.has_choice.ensures.choice in
    other (subst (λ (i : Image). HasChoice (source_of c.args.lawful.now) i) (sym c.image-image.ensures.same) h.tau0)

pub returns-then-from-cpus : goal.returns-then-from-cpus
returns-then-from-cpus c =
    let cpus = ap (λ (p : Processor). p.logical_cpus) (c.processor.ensures ∙ ap (λ (r : Resolution). r.processor) c.resolved.ensures.value) in
    let image = ap (λ (i : Image). i.header.cpus) c.image-image.ensures.same in
    other_cpus c.args.lawful.now c.args.parts.now (λ e. c.if-from-cpus.true (c.from.ensures ∙ image ∙ e ∙ sym cpus))

pub returns : goal.returns
returns c =
    let r = c.args.lawful.now in
    let same = c.image-image.ensures.same in
    let cpus = ap (λ (p : Processor). p.logical_cpus) (c.processor.ensures ∙ ap (λ (x : Resolution). x.processor) c.resolved.ensures.value) in
    let image = ap (λ (i : Image). i.header.cpus) same in
    let chosen : HasChoice (source_of r) c.image-image.result.now = rw c.if-not-has_choice.false at c.has_choice.ensures.choice in
    let told = plan_told r c.has_choice.ensures.resolved c.in_ok-made.made c.image-image.result.now.plan c.in_ok-made.ensures c.same_plan.result c.same_plan.ensures in
    plan_whole r c.args.parts.now (subst (λ (i : Image). HasChoice (source_of r) i) same chosen)
    (sym image ∙ sym c.from.ensures ∙ c.if-from-cpus.false ∙ cpus)
    c.same_plan.result (subst (λ (i : Image). Decides (IsPlanOf (source_of r) i.plan) c.same_plan.result) same told)
