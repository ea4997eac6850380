-- When what reaches the machine, by numbers, is an input of the system, by names.
use Rattle.std.specs.Prelude.{◌≡◌, ℕ, ◌+◌, ◌*◌, ◌≤◌, false, List, [], ◌∷◌, length, map, Option, Some, None, is_some}
use Rattle.std.specs.List.{All, AllZip, enumerate_from, flat_map, list_all}
use Rattle.kernel_core.specs.effect.Effect.{Effect}
use Rattle.kernel_core.specs.effect.Effect.TheVariants.{Port, Mem, Irq}
use Rattle.policy_lawful.specs.Events.{irq_of}
use Rattle.policy_lawful.specs.Thing.{Thing, device_memory}
use Rattle.subject_model.specs.DeviceRecord.{NamedInput, port_input, memory_input, irq_input, dma_input}
use Rattle.subject_model.specs.Clock.{ByteWrite, line_writes}
use Rattle.proof_turns.specs.Ground.{Ground, IsSubject, subject_name_at}
use Rattle.guest_isa.specs.Words.{IsByte}

-- the port has this byte
pub record ArePort (es : List Effect) (port value : ℕ) : Type 0 where
  pub are : es ≡ Port port value ∷ []
  pub small : IsByte value

-- bytes that go into a thing, one behind another
pub record Part : Type 0 where
  pub thing : Thing
  pub offset : ℕ
  pub bytes : List ℕ

-- they are written to where the thing has this offset, and the thing has room for them
pub record IsWrite (g : Ground) (e : Effect) (x : Part) : Type 0 where
  pub at : ℕ
  pub is : e ≡ Mem at x.bytes
  pub address : at ≡ 4096 * g.first x.thing + x.offset
  pub room : x.offset + length x.bytes ≤ 4096 * g.pages x.thing
  pub small : All IsByte x.bytes

pub record AreWrite (g : Ground) (es : List Effect) (x : Part) : Type 0 where
  pub effect : Effect
  pub are : es ≡ effect ∷ []
  pub write : IsWrite g effect x

-- the interrupt is granted to this subject, under this vector
pub record SameIrq (g : Ground) (s v : ℕ) (device irq : List ℕ) : Type 0 where
  pub is : IsSubject g s
  pub granted : irq_of g.policy device irq ≡ Some (record { subject = subject_name_at g s; vector = Some v })

-- one that nobody has reaches nobody
pub data AreIrq (g : Ground) (es : List Effect) (device irq : List ℕ) : Type 0 where
  nobody : es ≡ [] → irq_of g.policy device irq ≡ None → AreIrq g es device irq
  somebody : (s v : ℕ) → es ≡ Irq s v ∷ [] → SameIrq g s v device irq → AreIrq g es device irq

-- a part, byte by byte
abbrev pub each_of : Part → List (Option ByteWrite)
each_of x = map (λ e. Some (record { thing = x.thing; offset = e.0; value = e.1 })) (enumerate_from x.offset x.bytes)

-- a line of direct memory access is dropped, where one of its bytes goes nowhere; or its bytes are those of some parts, each of
-- which is one write
pub data AreLine (g : Ground) (es : List Effect) (writes : List (Option ByteWrite)) : Type 0 where
  dropped : es ≡ [] → list_all is_some writes ≡ false → AreLine g es writes
  written : (parts : List Part) → AllZip (IsWrite g) es parts → flat_map each_of parts ≡ writes → AreLine g es writes

-- **these effects are this input**
abbrev pub AreInput : Ground → List Effect → NamedInput → Type 0
AreInput g es (port_input device port value) = ArePort es port value
AreInput g es (memory_input device memory offset bytes) =
    AreWrite g es (record { thing = device_memory device memory; offset = offset; bytes = bytes })
AreInput g es (irq_input device irq) = AreIrq g es device irq
AreInput g es (dma_input device address bytes) = AreLine g es (line_writes g.policy device address bytes)
