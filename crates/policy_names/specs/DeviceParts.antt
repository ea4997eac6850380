-- What a use of a device refers to, among the names of its parts.
use Rattle.std.specs.Prelude.{◌≡◌, ℕ, List, length, map, nat_lt, Option}
use Rattle.std.specs.Option.{option_or}
use Rattle.std.specs.List.{list_all}
use Rattle.muen_num.specs.Search.{first_in}
use Rattle.policy_lawful.specs.Resolution.{name_at}
use Rattle.policy_lawful.specs.Rules.{undeclared}
use Rattle.policy_lawful.specs.declared.offence.Offence.{Offence}
use Rattle.policy_lawful.specs.declared.resolved.DeviceMapping.{DeviceMapping as ResolvedMapping}
use Rattle.policy_lawful.specs.declared.resolved.DeviceUse.{DeviceUse as ResolvedUse}
use Rattle.policy_lawful.specs.declared.resolved.IrqUse.{IrqUse as ResolvedIrq}
use Rattle.policy_lawful.specs.source.DeviceMapping.{DeviceMapping}
use Rattle.policy_lawful.specs.source.DeviceUse.{DeviceUse}
use Rattle.policy_lawful.specs.source.IrqUse.{IrqUse}
use Rattle.policy_names.specs.Indexes.{StandsFor}
use Rattle.policy_names.specs.declared.parts.DeviceNames.{DeviceNames}

-- the first reference to a part that isn't there
abbrev pub parts_offence : DeviceNames → List ℕ → DeviceUse → Option Offence
parts_offence names by d =
    option_or (first_in (λ m. undeclared by (names.memory, m.memory)) d.memory)
    (option_or (first_in (λ x. undeclared by (names.io_ports, x)) d.io_ports) (first_in (λ i. undeclared by (names.irqs, i.irq)) d.irqs))

-- the parts of a use stand for those of another, and its device stands at this index
pub record PartsStand (names : DeviceNames) (index : ℕ) (d : DeviceUse) (r : ResolvedUse) : Type 0 where
  pub device : r.device ≡ index
  pub memory : StandsFor {X = List ResolvedMapping} {Y = List DeviceMapping} (map (λ m. record { memory = name_at names.memory m.memory; virtual_address = m.virtual_address; rights = m.rights })) (list_all (λ m. nat_lt m.memory (length names.memory))) d.memory r.memory
  pub io_ports : StandsFor {X = List ℕ} {Y = List (List ℕ)} (map (name_at names.io_ports)) (list_all (λ x. nat_lt x (length names.io_ports))) d.io_ports r.io_ports
  pub irqs : StandsFor {X = List ResolvedIrq} {Y = List IrqUse} (map (λ i. record { irq = name_at names.irqs i.irq; vector = i.vector })) (list_all (λ i. nat_lt i.irq (length names.irqs))) d.irqs r.irqs
