use Rattle.std.proofs.Common.{◌∙◌, ap, arith, inl, length, List}
use Rattle.image_checks.proofs.plan_owner.plan_fault.Goals as goal
use Rattle.image_checks.specs.PlanFault.{HasAsMany}
use Rattle.image_pack.specs.declared.parts.Image.{Image}
use Rattle.policy_lawful.proofs.SourceElements.{many_subjects}
use Rattle.policy_lawful.specs.Resolution.{Resolution, source_of}
use Rattle.policy_lawful.specs.declared.resolved.Subject.{Subject}

pub returns-then-len-subjects : goal.returns-then-len-subjects
returns-then-len-subjects c =
    let image = ap (λ (i : Image). length i.subjects) c.image.ensures.same in
    let declared = ap (λ (ss : List Subject). length ss) (c.subjects.ensures.value ∙ ap (λ (r : Resolution). r.subjects) (c.resolved.ensures.value ∙ c.lawful-lawful.ensures)) in
    let named = many_subjects c.args.expanded.now.lawful in
    let there = c.len.ensures in
    inl (λ h. c.if-len-subjects.true (omega (arith, image, declared, named, there, h)))

pub beside_subjects-requires-clause-many : goal.beside_subjects-requires-clause-many
beside_subjects-requires-clause-many c =
    let image = ap (λ (i : Image). length i.subjects) c.image.ensures.same in
    let declared = ap (λ (ss : List Subject). length ss) (c.subjects.ensures.value ∙ ap (λ (r : Resolution). r.subjects) (c.resolved.ensures.value ∙ c.lawful-lawful.ensures)) in
    let named = many_subjects c.args.expanded.now.lawful in
    let there = c.len.ensures in
    let same = c.if-len-subjects.false in
    omega (arith, image, declared, named, there, same)

pub returns-in-Some : goal.returns-in-Some
returns-in-Some c =
    let image = ap (λ (i : Image). length i.subjects) c.image.ensures.same in
    let declared = ap (λ (ss : List Subject). length ss) (c.subjects.ensures.value ∙ ap (λ (r : Resolution). r.subjects) (c.resolved.ensures.value ∙ c.lawful-lawful.ensures)) in
    let named = many_subjects c.args.expanded.now.lawful in
    let there = c.len.ensures in
    let same = c.if-len-subjects.false in
    let many : HasAsMany (source_of c.args.expanded.now.lawful) c.args.image.now = omega (arith, image, declared, named, there, same) in
    record { many = many; first = rw c.in-Some.is at c.in_ok-subject_fault.ensures }
