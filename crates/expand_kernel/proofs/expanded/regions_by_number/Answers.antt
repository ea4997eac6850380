use Rattle.std.proofs.Common.{◌++◌, length, ap, sym, ◌∙◌, subst}
use Rattle.std.proofs.lemmas.Slice.Zip.{AllZip-long}
use Rattle.expand_grants.specs.Grants.{AreGrantsOf}
use Rattle.expand_kernel.specs.Expansion.{HaveNames}
use Rattle.expand_kernel.specs.ByIndex.{kernel_for_each}
use Rattle.expand_kernel.proofs.Numbering.{can_map_granted, joined_by_index}
use Rattle.expand_kernel.proofs.expanded.regions_by_number.Goals as goal
use Rattle.policy_lawful.specs.Resolution.{IsResolved, Resolution, source_of}
use Rattle.policy_lawful.specs.Thing.{placed_items}
use Rattle.policy_lawful.specs.Things.{AreDeclared}

pub of_kernel-requires-clause-windows : goal.of_kernel-requires-clause-windows
of_kernel-requires-clause-windows c =
    can_map_granted c.args.lawful.now c.args.grants.now
    c.resolved-policy.ensures.lawful c.requires

pub of_kernel-requires-clause-as_many : goal.of_kernel-requires-clause-as_many
of_kernel-requires-clause-as_many c =
    ap length (c.subjects-subjects.ensures.value ∙ ap (λ (r : Resolution). r.subjects) c.resolved-policy.ensures.value)
    ∙ sym (AllZip-long (AreGrantsOf c.args.lawful.now) c.args.lawful.now.subjects c.args.grants.now c.requires)

pub returns-clause-resolved : goal.returns-clause-resolved
returns-clause-resolved c = subst IsResolved c.resolved-policy.ensures.value c.subjects-subjects.ensures.resolved

pub returns-clause-named : goal.returns-clause-named
returns-clause-named c =
    subst HaveNames (c.subjects-subjects.ensures.value ∙ ap (λ (r : Resolution). r.subjects) c.resolved-policy.ensures.value) c.in_ok-kernel.ensures.named

pub returns-clause-regions : goal.returns-clause-regions
returns-clause-regions c =
    let same = c.resolved-policy.ensures.value in
    let subjects = c.subjects-subjects.ensures.value ∙ ap (λ (r : Resolution). r.subjects) same in
    let things = c.placed_things.result.now in
    joined_by_index c.args.lawful.now c.args.grants.now things c.in_ok-kernel.kernel.items c.of.result
    c.requires
    (subst (λ (r : Resolution). AreDeclared r (placed_items (source_of r)) things) same c.placed_things.ensures.declared)
    (c.in_ok-kernel.ensures.regions ∙ ap (λ ss. kernel_for_each ss c.args.grants.now) subjects)
    (c.of.ensures ∙ c.in_ok-extend_from_slice.ensures.items ∙ (λ i. c.in_ok-regions.ensures i ++ c.deref.ensures.value i))
