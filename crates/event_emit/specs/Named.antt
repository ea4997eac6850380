-- Names are names.
use Rattle.std.specs.Prelude.{◌≡◌, ◌&&◌, Bool, true}
use Rattle.std.specs.List.{list_all}
use Rattle.expand_kernel.specs.Expansion.{HaveNames}
use Rattle.muen_num.specs.Naming.{is_name}
use Rattle.policy_lawful.specs.Resolution.{Resolution}
use Rattle.policy_lawful.specs.source.Device.{Device}

-- those of a device and of its interrupts
abbrev pub is_named_device : Device → Bool
is_named_device d = is_name d.name && list_all (λ i. is_name i.name) d.irqs

-- those of a policy's subjects, of its devices and of their interrupts
pub record AreNamed (r : Resolution) : Type 0 where
  pub subjects : HaveNames r.subjects
  pub devices : list_all is_named_device r.devices ≡ true
