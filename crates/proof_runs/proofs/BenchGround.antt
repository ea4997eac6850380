-- Where devices' memory lies, whom their interrupts reach, and what tables let them write, as the policy says it.
use Rattle.std.proofs.Common.{◌≡◌, ℕ, ◌*◌, List, [], Option, Some, None, find, position, unwrap_or}
use Rattle.std.specs.List.{All}
use Rattle.std.specs.Str.{bytes_eq}
use Rattle.subject_model.specs.Clock.{line_writes}
use Rattle.image_load.specs.Resolving.{NamedMemory, device_called, named_memories_of}
use Rattle.image_pack.specs.declared.parts.DevicePart.{DevicePart}
use Rattle.image_pack.specs.declared.parts.Image.{Image}
use Rattle.image_pack.specs.declared.parts.IrqPart.{IrqPart}
use Rattle.muen_num.specs.declared.devices.IrqTarget.{IrqTarget}
use Rattle.policy_lawful.specs.Events.{irq_of}
use Rattle.policy_lawful.specs.Thing.{device_memory}
use Rattle.record_text.proofs.Rules.{IsFew}
use Rattle.proof_turns.specs.effect.Effect.{Effect}
use Rattle.dma_tables.specs.Lowered.{goes, line_writes as machine_writes}
use Rattle.dma_tables.specs.declared.file.DmaFile.{DmaFile}
use Rattle.proof_turns.specs.Ground.{Ground}
use Rattle.proof_start.specs.Words.{IsByte}
use Rattle.proof_turns.specs.Inputs.{AreLine, SameIrq}

-- ---- memory

-- a memory of a device lies where the thing of these names does, and is as long
pub record IsThing (g : Ground) (device memory : List ℕ) (m : NamedMemory) : Type 0 where
  pub address : m.address ≡ 4096 * g.first (device_memory device memory)
  pub bytes : m.bytes ≡ 4096 * g.pages (device_memory device memory)

-- each that is found by its names
abbrev pub HasMemories : Ground → Image → Type 0
HasMemories g i =
    (device memory : List ℕ) (d : DevicePart) (m : NamedMemory) → device_called device i ≡ Some d
    → find (λ m. bytes_eq m.name memory) (named_memories_of i.spans d) ≡ Some m → IsThing g device memory m

-- ---- interrupts

-- an interrupt goes where the policy grants it, or to nobody
abbrev pub IsRaised : Ground → List ℕ → List ℕ → Option IrqTarget → Type 0
IsRaised g device irq None = irq_of g.policy device irq ≡ None
IsRaised g device irq (Some t) = SameIrq g t.subject t.vector device irq

-- each that is found by its names
abbrev pub HasTargets : Ground → Image → Type 0
HasTargets g i =
    (device irq : List ℕ) (d : DevicePart) (q : IrqPart) → device_called device i ≡ Some d
    → find (λ q. bytes_eq q.name irq) d.irqs ≡ Some q → IsRaised g device irq q.target

-- ---- lines of direct memory access

-- what a line of the device with this number writes
abbrev pub written_by : Option DmaFile → Image → ℕ → ℕ → List ℕ → List Effect
written_by tables i number addr bytes = unwrap_or (machine_writes (goes tables i number) addr bytes) []

-- what tables let a device write is what the policy lets it write
abbrev pub HasLines : Ground → Image → Option DmaFile → Type 0
HasLines g i tables =
    (device : List ℕ) (addr : ℕ) (bytes : List ℕ) (number : ℕ) → position (λ d. bytes_eq d.name device) i.devices ≡ Some number
    → All IsByte bytes → IsFew bytes → AreLine g (written_by tables i number addr bytes) (line_writes g.policy device addr bytes)
