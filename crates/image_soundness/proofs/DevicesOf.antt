-- The devices that a policy asks for: as many as the policy's, with the names of their interrupts.
use Rattle.std.proofs.Common.{◌≡◌, ℕ, suc, ◌+◌, List, [], ◌∷◌, length, map, refl, ap, ap₂}
use Rattle.std.specs.List.{AllZip}
use Rattle.image_pack.specs.declared.parts.DevicePart.{DevicePart}
use Rattle.image_pack.specs.declared.parts.IrqPart.{IrqPart}
use Rattle.image_soundness.specs.TablesOf.{AreDevices, IsIrq}
use Rattle.policy_lawful.specs.Resolution.{Resolution}
use Rattle.policy_lawful.specs.source.Device.{Device}
use Rattle.policy_lawful.specs.source.Irq.{Irq}

pub irqs_named : (r : Resolution) (d : Device) (irqs : List Irq) (parts : List IrqPart) → AllZip (IsIrq r d) irqs parts → map (λ q. q.name) parts ≡ map (λ j. j.name) irqs
irqs_named r d [] [] h = refl
irqs_named r d [] (q ∷ qs) h = absurd h
irqs_named r d (j ∷ js) [] h = absurd h
irqs_named r d (j ∷ js) (q ∷ qs) h = ap₂ (λ n ns. n ∷ ns) h.0.name (irqs_named r d js qs h.1)

pub devices_long : (r : Resolution) (first : ℕ) (ds : List Device) (qs : List DevicePart) → AreDevices r first ds qs → length qs ≡ length ds
unfolding AreDevices
devices_long r first [] [] h = refl
devices_long r first [] (q ∷ qs) h = absurd h
devices_long r first (d ∷ ds) [] h = absurd h
devices_long r first (d ∷ ds) (q ∷ qs) h = ap suc (devices_long r (first + length d.memory) ds qs h.1)
