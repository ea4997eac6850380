use Rattle.std.proofs.Common.{sym, ap, subst, ◌∙◌, ◌≡◌, true}
use Rattle.std.specs.List.{list_all}
use Rattle.std.proofs.lemmas.Result.{IfOk-weaker}
use Rattle.event_emit.specs.ByIndex.{DeviceRoutesFew, device_parts}
use Rattle.event_emit.specs.Named.{AreNamed, is_named_device}
use Rattle.image_soundness.specs.TablesOf.{AreDevices}
use Rattle.event_emit.proofs.DevicesByIndex.{are_devices, are_few}
use Rattle.event_emit.proofs.EntriesReach.{with_letters}
use Rattle.event_emit.proofs.device_parts.devices.Goals as goal
use Rattle.expand_grants.specs.ByIndex.{fits_device}
use Rattle.expand_grants.proofs.PortsByIndex.{ports_fit}
use Rattle.policy_lawful.specs.Lawful.{IsLawful}
use Rattle.policy_lawful.specs.Resolution.{Resolution, source_of}
use Rattle.policy_lawful.proofs.KeptRules.{rules_of}

pub device_parts-requires-clause-ports : goal.device_parts-requires-clause-ports
device_parts-requires-clause-ports c =
    let same = c.resolved-policy.ensures.value ∙ c.lawful.ensures in
    let lawful = subst (λ (r : Resolution). IsLawful (source_of r)) c.lawful.ensures c.resolved-policy.ensures.lawful in
    ap (list_all fits_device) (c.devices.ensures.value ∙ ap (λ (r : Resolution). r.devices) same) ∙ ports_fit c.args.expanded.now.lawful (rules_of lawful).rule_10

pub device_parts-requires-clause-routes : goal.device_parts-requires-clause-routes
device_parts-requires-clause-routes c =
    let same = c.resolved-policy.ensures.value ∙ c.lawful.ensures in
    subst (DeviceRoutesFew c.routes.result.now) (sym (c.devices.ensures.value ∙ ap (λ (r : Resolution). r.devices) same))
    (are_few c.args.expanded.now.lawful (with_letters c.args.expanded.now.lawful.subjects c.routes.ensures.named)
    (subst (λ (r : Resolution). IsLawful (source_of r)) c.lawful.ensures c.resolved-policy.ensures.lawful)
    c.routes.result.now c.routes.ensures.routes)

pub returns-clause-devices : goal.returns-clause-devices
returns-clause-devices c =
    let same = c.resolved-policy.ensures.value ∙ c.lawful.ensures in
    IfOk-weaker c.device_parts.result (λ ps. ps ≡ device_parts c.routes.result.now 0 c.args.first c.devices.result.now) (AreDevices c.args.expanded.now.lawful c.args.first c.args.expanded.now.lawful.devices)
    (λ ps is. are_devices c.args.expanded.now.lawful (with_letters c.args.expanded.now.lawful.subjects c.routes.ensures.named)
    (subst (λ (r : Resolution). IsLawful (source_of r)) c.lawful.ensures c.resolved-policy.ensures.lawful)
    c.routes.result.now c.routes.ensures.routes c.args.first ps
    (is ∙ ap (device_parts c.routes.result.now 0 c.args.first) (c.devices.ensures.value ∙ ap (λ (r : Resolution). r.devices) same)))
    c.device_parts.ensures.parts

pub returns-clause-named : goal.returns-clause-named
returns-clause-named c =
    let same = c.resolved-policy.ensures.value ∙ c.lawful.ensures in
    let devices = c.devices.ensures.value ∙ ap (λ (r : Resolution). r.devices) same in
    IfOk-weaker c.device_parts.result (λ _. list_all is_named_device c.devices.result.now ≡ true) (λ _. AreNamed c.args.expanded.now.lawful)
    (λ _ is. record { subjects = c.routes.ensures.named; devices = sym (ap (list_all is_named_device) devices) ∙ is })
    c.device_parts.ensures.named
