use Rattle.policy_names.proofs.DeviceAtIndex.{resolved}
use Rattle.policy_names.proofs.devices.SourceDeviceUseRefers.resolve.Goals as goal

pub returns : goal.returns
returns c =
    let scope = c.args.scope.now in
    resolved scope.source.now c.args.by c.args.self.now c.in_ok-index.index c.parts_at.result.now scope.unique
    (rw scope.devices_are at c.in_ok-index.ensures.1) c.parts_at.ensures c.resolve_parts.result (rw scope.devices_are at c.in_ok-index.ensures.0) c.resolve_parts.ensures
