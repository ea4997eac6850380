use Rattle.std.proofs.Common.{ap, ◌∙◌}
use Rattle.span_emit.proofs.Image.{by_address}
use Rattle.span_emit.proofs.Placed.{IsPlaced, all_spans, few_regions, few_spans, from_calls, memories_small, regions_small}
use Rattle.span_emit.proofs.by_number.by_number.Goals as goal
use Rattle.span_emit.proofs.by_number.by_number.Goals.{After-addresses}

known : (c : After-addresses) → IsPlaced c.args.placed.now.expanded.lawful.memory_blocks c.devices-devices.result.now c.regions.result.now c.addresses.result.now
known c =
    from_calls c.args.placed.now c.expanded-expanded.result.now c.lawful.result.now c.resolved.result.now c.devices-devices.result.now c.regions.result.now c.addresses.result.now
    c.expanded-expanded.ensures.value c.lawful.ensures c.resolved.ensures.value c.resolved.ensures.lawful c.devices-devices.ensures.value c.regions.ensures.value c.regions.ensures.regions
    c.addresses.ensures.placement c.addresses.ensures.inside c.addresses.ensures.disjoint

pub of_regions-requires-clause-few : goal.of_regions-requires-clause-few
of_regions-requires-clause-few c = few_regions _ _ _ _ (known (goal.at.of_regions-requires-clause-few c).After-addresses)

pub of_regions-requires-clause-small : goal.of_regions-requires-clause-small
of_regions-requires-clause-small c = regions_small _ _ _ _ (known (goal.at.of_regions-requires-clause-small c).After-addresses)

pub push_devices-requires-clause-few : goal.push_devices-requires-clause-few
push_devices-requires-clause-few c =
    few_spans _ _ _ _ (known (goal.at.push_devices-requires-clause-few c).After-addresses) c.in_ok-spans.spans.items c.in_ok-spans.ensures.spans

pub push_devices-requires-clause-small : goal.push_devices-requires-clause-small
push_devices-requires-clause-small c = memories_small _ _ _ _ (known (goal.at.push_devices-requires-clause-small c).After-addresses)

pub returns-clause-spans : goal.returns-clause-spans
returns-clause-spans c =
    all_spans _ _ _ _ (known (goal.at.returns-clause-spans c).After-addresses) c.args.placed.now c.in_ok-spans.spans.items c.push_devices.new.spans.items
    (c.regions.ensures.value ∙ ap (λ x. x.regions) c.expanded-expanded.ensures.value) c.addresses.ensures.value
    (c.devices-devices.ensures.value ∙ ap (λ r. r.devices) (c.resolved.ensures.value ∙ c.lawful.ensures ∙ ap (λ x. x.lawful) c.expanded-expanded.ensures.value))
    c.in_ok-spans.ensures.spans c.in_ok-push_devices.ensures.spans

pub returns-clause-placed : goal.returns-clause-placed
returns-clause-placed c =
    by_address _ _ _ _ (known (goal.at.returns-clause-placed c).After-addresses) c.in_ok-spans.spans.items c.push_devices.new.spans.items
    c.in_ok-spans.ensures.spans c.in_ok-push_devices.ensures.spans c.in_ok-push_devices.ensures.named
