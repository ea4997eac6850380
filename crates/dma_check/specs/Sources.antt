-- Sources of requests, and what a policy and an image declare for each (Intel VT-d specification: the source identifier, whose
-- bits 15:8 are the bus, 7:3 the device and 2:0 the function).
use Rattle.std.specs.Prelude.{ℕ, ◌+◌, ◌*◌, ◌==◌, Bool, false, if◌then◌else◌, List, [], Option, Some, None}
use Rattle.std.specs.Option.{option_map_or}
use Rattle.std.specs.List.{find}
use Rattle.image_pack.specs.declared.parts.Image.{Image}
use Rattle.image_soundness.specs.Sound.{address_of, led}
use Rattle.machine_layout.specs.declared.walk.Walk.{Walk}
use Rattle.machine_layout.specs.declared.walk.Walk.TheVariants.{At, Misconfigured, Violation}
use Rattle.muen_num.specs.declared.access.AccessKind.TheVariants.{Read, Write}
use Rattle.muen_num.specs.declared.limits.TheConstants.{BDF_FUNCTIONS}
use Rattle.policy_lawful.specs.Dma.{dma_windows}
use Rattle.policy_lawful.specs.Thing.{Thing}
use Rattle.policy_lawful.specs.Windows.{Window, access_of}
use Rattle.policy_lawful.specs.source.Bdf.{Bdf}
use Rattle.policy_lawful.specs.source.Device.{Device}
use Rattle.policy_lawful.specs.source.Source.{Source}

-- how many sources there are
abbrev pub SOURCES : ℕ
SOURCES = 65536

abbrev pub source_id : Bdf → ℕ
source_id b = 256 * b.bus + (BDF_FUNCTIONS * b.device + b.function)

-- a device is this source
abbrev pub is_source : ℕ → Device → Bool
is_source source d = option_map_or (λ b. source_id b == source) d.bdf false

-- the policy's device that is this source
abbrev pub device_of : Source → ℕ → Option Device
device_of p source = find (is_source source) p.devices

-- the windows of that device's domain; a source that is no device of the policy, or one in no domain, has none
abbrev pub source_windows : Source → ℕ → List (Window Thing)
source_windows p source = option_map_or (λ (d : Device). dma_windows p d.name) (device_of p source) []

-- the address to which an access comes, if it comes to one
abbrev pub comes_to : Walk → Option ℕ
comes_to (At address) = Some address
comes_to (Violation found) = None
comes_to Misconfigured = None

-- **what is declared**: where the image has the byte that the domain's window shows at an address, where it has the right to
-- read, or to write; nothing elsewhere
unfoldable pub declared : Source → Image → ℕ → ℕ → Bool → Option ℕ
declared p i source addr write = comes_to (led (address_of p i) (access_of (source_windows p source) addr (if write then Write else Read)))
