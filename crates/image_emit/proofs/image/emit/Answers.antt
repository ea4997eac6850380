use Rattle.std.proofs.Common.{◌∙◌, ap, sym, subst, arith, length}
use Rattle.std.specs.List.{sum_by}
use Rattle.image_emit.proofs.FewKnown.{are_few, cpus_few, memory_few, regions_few, spans_few}
use Rattle.image_emit.proofs.ImageMade.{image_of_parts, parts_fit}
use Rattle.event_emit.specs.Named.{AreNamed}
use Rattle.image_soundness.specs.TablesOf.{AreDevices}
use Rattle.image_emit.specs.Gathered.{IsHeld}
use Rattle.image_emit.specs.Made.{IsEmitted, IsImageOf, choice_region}
use Rattle.image_pack.specs.Parts.{counted_image}
use Rattle.image_soundness.specs.PlanOf.{IsPlanOf}
use Rattle.policy_lawful.specs.Resolution.{source_of}
use Rattle.image_emit.proofs.image.emit.Goals.{After-cpus}
use Rattle.image_emit.proofs.image.emit.Goals as goal

pub held-requires-clause-as_many : goal.held-requires-clause-as_many
held-requires-clause-as_many c = (are_few c.args.placed.now c.expanded-expanded.ensures.placed).grants

pub subjects-requires : goal.subjects-requires
subjects-requires c = are_few c.args.placed.now c.expanded-expanded.ensures.placed

pub first_device-requires : goal.first_device-requires
first_device-requires c = let few = regions_few c.args.placed.now c.expanded-expanded.ensures.placed in omega (arith, few)

pub devices-requires : goal.devices-requires
devices-requires c =
    let few = spans_few c.args.placed.now c.expanded-expanded.ensures.placed in
    let first = c.first_device.ensures in
    let same = ap (λ p. sum_by (λ d. length d.memory) p.lawful.devices) c.expanded-expanded.ensures.value in
    omega (arith, few, first, same)

pub choice_of-tau0-requires : goal.choice_of-tau0-requires
choice_of-tau0-requires c =
    let few = memory_few c.args.placed.now c.expanded-expanded.ensures.placed in
    let same = ap (λ r. length r.memory) c.policy_of-policy.ensures in
    omega (arith, few, same)

pub cpus-requires : goal.cpus-requires
cpus-requires c = let few = cpus_few c.args.placed.now c.expanded-expanded.ensures.placed in omega (arith, few)

-- what was made comes to an image
made : (c : goal.After-cpus) → IsImageOf c.args.placed.now c.args.things (counted_image c.cpus.result c.choice_of-tau0.result c.in_ok-spans.spans c.in_ok-subjects.subjects c.in_ok-plan.plan c.in_ok-devices.devices c.in_ok-held.held)
made c =
    image_of_parts c.args.placed.now c.args.things c.in_ok-spans.spans c.in_ok-held.held c.in_ok-subjects.subjects c.in_ok-plan.plan c.in_ok-devices.devices c.cpus.result c.choice_of-tau0.result
    c.expanded-expanded.ensures.placed (subst (λ p. AreNamed p.lawful) c.expanded-expanded.ensures.value c.in_ok-devices.ensures.named) c.requires.filled c.in_ok-spans.ensures.numbered c.in_ok-spans.ensures.spans
    (subst (λ ss. IsHeld c.args.placed.now c.args.things ss c.in_ok-held.held) c.items.ensures c.in_ok-held.ensures)
    c.in_ok-subjects.ensures
    (subst (λ r. IsPlanOf (source_of r) c.in_ok-plan.plan) (c.lawful.ensures ∙ ap (λ p. p.lawful) c.expanded-expanded.ensures.value) c.in_ok-plan.ensures)
    (subst (λ n. AreDevices c.args.placed.now.expanded.lawful n c.args.placed.now.expanded.lawful.devices c.in_ok-devices.devices) c.first_device.ensures
    (subst (λ p. AreDevices p.lawful c.first_device.result p.lawful.devices c.in_ok-devices.devices) c.expanded-expanded.ensures.value c.in_ok-devices.ensures.devices))
    c.cpus.ensures
    (c.choice_of-tau0.ensures ∙ ap choice_region c.policy_of-policy.ensures)

pub make-requires : goal.make-requires
make-requires c = parts_fit c.args.placed.now c.args.things _ (made c) c.in_ok-held.ensures.bytes

pub returns : goal.returns
returns c =
    let image = made ((goal.at.returns c).After-cpus) in
    subst (IsEmitted c.args.placed.now c.args.things) (sym c.make.ensures) (record { made = image; parts = parts_fit c.args.placed.now c.args.things _ image c.in_ok-held.ensures.bytes })
