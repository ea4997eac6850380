use Rattle.std.proofs.Common.{◌≡◌, ◌∙◌, ◌<◌, ◌≤◌, length, arith, None, rules, ap, subst}
use Rattle.std.specs.Prelude.{zip}
use Rattle.image_checks.proofs.Decided.{fails_first, holds_here}
use Rattle.image_checks.proofs.SubjectAt.{grants_many, pairs_many}
use Rattle.image_checks.proofs.SubjectTests.{bitmaps_answer}
use Rattle.image_pack.specs.declared.parts.Image.{Image}
use Rattle.image_pack.specs.declared.parts.SubjectPart.{SubjectPart}
use Rattle.image_soundness.specs.Sound.{HasBitmaps}
use Rattle.policy_lawful.specs.MoreRules.{offence_11}
use Rattle.policy_lawful.specs.Resolution.{Resolution, source_of}
use Rattle.policy_lawful.proofs.KeptRules.{rules_of}
use Rattle.policy_lawful.specs.source.Subject.{Subject}
use Rattle.image_checks.proofs.bitmaps.first_by_bitmaps.Goals as goal

pub returns-then-not-branch : goal.returns-then-not-branch
returns-then-not-branch c =
    let r = c.args.expanded.now.lawful in
    let i = c.args.image.now in
    let k = c.loop-index.index in
    let gs = c.grants-grants.result.now in
    let qs = c.items-parts.result.now in
    let same : qs ≡ i.subjects = c.items-parts.ensures ∙ ap (λ (x : Image). x.subjects) c.image-image.ensures.same in
    let rule : offence_11 (source_of r) ≡ None = subst (λ (x : Resolution). offence_11 (source_of x) ≡ None) c.lawful.ensures (rules_of c.resolved.ensures.lawful).rule_11 in
    let l : k < length gs = omega (arith, c.min-index-end.ensures) in
    let m : k < length qs = omega (arith, c.min-index-end.ensures) in
    let within : k < length (zip (source_of r).subjects i.subjects) = omega (arith, pairs_many r i.subjects, grants_many r gs c.grants-grants.ensures.grants, ap length same) in
    fails_first (λ (e : Subject × SubjectPart). HasBitmaps (source_of r) i e.0 e.1) (zip (source_of r).subjects i.subjects) k c.in_ok-bitmaps_agree.field-0 within c.loop-index.invariant (search rules)
    (bitmaps_answer r i c.image-image.result.now gs qs k c.index-grants-index.result c.index-parts-index.result c.in_ok-bitmaps_agree.field-0 rule c.grants-grants.ensures.grants c.image-image.ensures.same c.items-parts.ensures l m c.index-grants-index.is c.index-parts-index.is c.in_ok-bitmaps_agree.ensures)

pub loop-index-preserved : goal.loop-index-preserved
loop-index-preserved c =
    let r = c.args.expanded.now.lawful in
    let i = c.args.image.now in
    let k = c.loop-index.index in
    let gs = c.grants-grants.result.now in
    let qs = c.items-parts.result.now in
    let rule : offence_11 (source_of r) ≡ None = subst (λ (x : Resolution). offence_11 (source_of x) ≡ None) c.lawful.ensures (rules_of c.resolved.ensures.lawful).rule_11 in
    let l : k < length gs = omega (arith, c.min-index-end.ensures) in
    let m : k < length qs = omega (arith, c.min-index-end.ensures) in
    holds_here (λ (e : Subject × SubjectPart). HasBitmaps (source_of r) i e.0 e.1) (zip (source_of r).subjects i.subjects) k c.in_ok-bitmaps_agree.field-0 c.loop-index.invariant (search rules)
    (bitmaps_answer r i c.image-image.result.now gs qs k c.index-grants-index.result c.index-parts-index.result c.in_ok-bitmaps_agree.field-0 rule c.grants-grants.ensures.grants c.image-image.ensures.same c.items-parts.ensures l m c.index-grants-index.is c.index-parts-index.is c.in_ok-bitmaps_agree.ensures)

pub returns : goal.returns
returns c =
    let r = c.args.expanded.now.lawful in
    let i = c.args.image.now in
    let gs = c.grants-grants.result.now in
    let same : c.items-parts.result.now ≡ i.subjects = c.items-parts.ensures ∙ ap (λ (x : Image). x.subjects) c.image-image.ensures.same in
    let many : length (zip (source_of r).subjects i.subjects) ≤ c.loop-index.index = omega (arith, pairs_many r i.subjects, grants_many r gs c.grants-grants.ensures.grants, ap length same, c.min-index-end.ensures) in
    λ j d l. c.loop-index.invariant j d (omega (arith, l, many))
