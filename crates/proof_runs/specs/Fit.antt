-- Tables for direct memory access that fit a policy and an image for it.
use Rattle.std.specs.Prelude.{◌≡◌, ℕ, ◌+◌, true, List, Option, Some, None, option_and_then}
use Rattle.std.specs.List.{All}
use Rattle.dma_tables.specs.DmaWalk.{dma_walk}
use Rattle.dma_tables.specs.declared.file.DmaFile.{DmaFile}
use Rattle.image_pack.specs.declared.parts.Image.{Image}
use Rattle.image_soundness.specs.Sound.{address_of}
use Rattle.muen_num.specs.declared.access.AccessKind.TheVariants.{Write}
use Rattle.policy_lawful.specs.Dma.{dma_access}
use Rattle.policy_lawful.specs.Thing.{Thing}
use Rattle.policy_lawful.specs.Windows.{Access, byte, violation}
use Rattle.policy_lawful.specs.source.Source.{Source}

-- where the byte lies that an access may touch
abbrev pub access_address_of : (Thing → ℕ) → Access Thing → Option ℕ
access_address_of address (byte x offset) = Some (address x + offset)
access_address_of address (violation found) = None

-- where tables lead a write of a device; without tables nowhere
abbrev pub write_by : Option DmaFile → List ℕ → ℕ → Option ℕ
write_by tables device addr = option_and_then (λ (t : DmaFile). dma_walk t device addr true) tables

-- **tables fit**, or that there are none does: each write of a device of the policy is led to where the image has the byte that
-- the device's domain declares, and nowhere else
abbrev pub Fit : Source → Image → Option DmaFile → Type 0
Fit p i tables = All (λ d. (addr : ℕ) → write_by tables d.name addr ≡ access_address_of (address_of p i) (dma_access p d.name addr Write)) p.devices
