use Rattle.std.proofs.Common.{rules}
use Rattle.std.specs.Prelude.{◌++◌}
use Rattle.std.specs.List.{flat_map}
use Rattle.map_report.specs.ByNumber.{all_granted_lines, memory_line}
use Rattle.map_report.specs.MapText.{region_lines}
use Rattle.policy_lawful.specs.Things.{device_things}
use Rattle.muen_outside.proofs.Buffered.{given_then, gives_exit, gives_then, lost_after, lost_first}
use Rattle.map_report.proofs.report.put_map.Goals as goal

pub returns-in_err-put_devices-clause-text : goal.returns-in_err-put_devices-clause-text
returns-in_err-put_devices-clause-text g c =
    let a = region_lines c.args.addresses.now c.args.regions.now in
    let b = flat_map memory_line (device_things c.args.policy.now) in (
      search rules,
      gives_exit _ _ _ _ c.from_residual-in_err-put_devices.ensures.0
          (lost_first (a ++ b) (all_granted_lines c.args.policy.now c.args.grants.now 0 c.args.policy.now.subjects) _ _
          (lost_after a b _ _ _ c.in_ok-put_regions.ensures.1 (rw c.device_things.ensures.value at c.in_err-put_devices.ensures.1))),
    )

pub returns-clause-text : goal.returns-clause-text
returns-clause-text g c =
    let a = region_lines c.args.addresses.now c.args.regions.now in
    let b = flat_map memory_line (device_things c.args.policy.now) in (
      search rules,
      gives_then (a ++ b) (all_granted_lines c.args.policy.now c.args.grants.now 0 c.args.policy.now.subjects) _ _ _ _
          (given_then a b _ _ _ c.in_ok-put_regions.ensures.1 (rw c.device_things.ensures.value at c.in_ok-put_devices.ensures.1))
          (rw c.subjects-subjects.ensures.value at c.put_all_windows.ensures.1),
    )
