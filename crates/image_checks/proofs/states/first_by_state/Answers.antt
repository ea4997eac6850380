use Rattle.std.proofs.Common.{◌≡◌, ◌∙◌, ◌<◌, ◌≤◌, length, arith, rules, ap}
use Rattle.std.specs.Prelude.{zip}
use Rattle.image_checks.proofs.Decided.{fails_first, holds_here}
use Rattle.image_checks.proofs.SubjectAt.{pairs_many}
use Rattle.image_checks.proofs.SubjectTests.{state_answer}
use Rattle.image_pack.specs.declared.parts.Image.{Image}
use Rattle.image_pack.specs.declared.parts.SubjectPart.{SubjectPart}
use Rattle.image_soundness.specs.Sound.{IsFresh}
use Rattle.policy_lawful.specs.Resolution.{Resolution, source_of}
use Rattle.policy_lawful.specs.source.Subject.{Subject}
use Rattle.image_checks.proofs.states.first_by_state.Goals as goal

pub returns-then-not-branch : goal.returns-then-not-branch
returns-then-not-branch c =
    let r = c.args.expanded.now.lawful in
    let i = c.args.image.now in
    let k = c.loop-index.index in
    let ss = c.subjects-subjects.result.now in
    let qs = c.items-parts.result.now in
    let subjects : ss ≡ r.subjects = c.subjects-subjects.ensures.value ∙ ap (λ (x : Resolution). x.subjects) (c.resolved.ensures.value ∙ c.lawful.ensures) in
    let same : qs ≡ i.subjects = c.items-parts.ensures ∙ ap (λ (x : Image). x.subjects) c.image-image.ensures.same in
    let l : k < length ss = omega (arith, c.min-index-end.ensures) in
    let m : k < length qs = omega (arith, c.min-index-end.ensures) in
    let within : k < length (zip (source_of r).subjects i.subjects) = omega (arith, l, m, pairs_many r i.subjects, ap length subjects, ap length same) in
    fails_first (λ (e : Subject × SubjectPart). IsFresh i e.0 e.1) (zip (source_of r).subjects i.subjects) k c.in_ok-is_fresh.field-0 within c.loop-index.invariant (search rules)
    (state_answer r i c.image-image.result.now ss qs k c.index-subjects-index.result c.index-parts-index.result c.in_ok-is_fresh.field-0 c.image-image.ensures.same subjects c.items-parts.ensures l m c.index-subjects-index.is c.index-parts-index.is c.in_ok-is_fresh.ensures)

pub loop-index-preserved : goal.loop-index-preserved
loop-index-preserved c =
    let r = c.args.expanded.now.lawful in
    let i = c.args.image.now in
    let k = c.loop-index.index in
    let ss = c.subjects-subjects.result.now in
    let qs = c.items-parts.result.now in
    let subjects : ss ≡ r.subjects = c.subjects-subjects.ensures.value ∙ ap (λ (x : Resolution). x.subjects) (c.resolved.ensures.value ∙ c.lawful.ensures) in
    let l : k < length ss = omega (arith, c.min-index-end.ensures) in
    let m : k < length qs = omega (arith, c.min-index-end.ensures) in
    holds_here (λ (e : Subject × SubjectPart). IsFresh i e.0 e.1) (zip (source_of r).subjects i.subjects) k c.in_ok-is_fresh.field-0 c.loop-index.invariant (search rules)
    (state_answer r i c.image-image.result.now ss qs k c.index-subjects-index.result c.index-parts-index.result c.in_ok-is_fresh.field-0 c.image-image.ensures.same subjects c.items-parts.ensures l m c.index-subjects-index.is c.index-parts-index.is c.in_ok-is_fresh.ensures)

pub returns : goal.returns
returns c =
    let r = c.args.expanded.now.lawful in
    let i = c.args.image.now in
    let subjects : c.subjects-subjects.result.now ≡ r.subjects = c.subjects-subjects.ensures.value ∙ ap (λ (x : Resolution). x.subjects) (c.resolved.ensures.value ∙ c.lawful.ensures) in
    let same : c.items-parts.result.now ≡ i.subjects = c.items-parts.ensures ∙ ap (λ (x : Image). x.subjects) c.image-image.ensures.same in
    let many : length (zip (source_of r).subjects i.subjects) ≤ c.loop-index.index = omega (arith, pairs_many r i.subjects, ap length subjects, ap length same, c.min-index-end.ensures) in
    λ j d l. c.loop-index.invariant j d (omega (arith, l, many))
