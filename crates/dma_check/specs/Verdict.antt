-- **The verdict** on tables, for a policy and an image: the first fault of the file's list of devices, or else of its tables (this
-- project's own).
use Rattle.std.specs.Prelude.{◌≡◌, ℕ, ◌+◌, ◌*◌, ◌==◌, ◌||◌, not, Bool, false, if◌then◌else◌, List, [], ◌∷◌, Option, Some, is_some, option_map}
use Rattle.std.specs.List.{All, find}
use Rattle.std.specs.Option.{option_map_or}
use Rattle.std.specs.Str.{bytes_eq}
use Rattle.dma_check.specs.Faults.{table_fault}
use Rattle.dma_check.specs.Sources.{comes_to, device_of}
use Rattle.dma_check.specs.Views.{view_of}
use Rattle.dma_check.specs.declared.fault.DmaFault.{DmaFault}
use Rattle.dma_check.specs.declared.fault.DmaFault.TheVariants.{Listing, Tables}
use Rattle.dma_check.specs.declared.fault.TableFault.{TableFault}
use Rattle.dma_tables.specs.DmaWalk.{dma_walk}
use Rattle.dma_tables.specs.declared.file.DmaDevice.{DmaDevice}
use Rattle.dma_tables.specs.declared.file.DmaFile.{DmaFile}
use Rattle.image_pack.specs.Parts.{IsParts}
use Rattle.image_pack.specs.declared.parts.Image.{Image}
use Rattle.image_pack.specs.declared.parts.SpanPart.{SpanPart}
use Rattle.image_soundness.specs.Sound.{address_of, led}
use Rattle.muen_num.specs.Search.{first_in, first_of, unless}
use Rattle.muen_num.specs.declared.access.AccessKind.TheVariants.{Read, Write}
use Rattle.policy_lawful.specs.Dma.{dma_access, domain_of}
use Rattle.policy_lawful.specs.source.Device.{Device}
use Rattle.policy_lawful.specs.source.Source.{Source}

-- ---- the list of devices: a record of a run names a device, and the file says which source that is

-- the source of a device of the file
abbrev pub listed_source : DmaDevice → ℕ
listed_source e = 256 * e.bus + e.devfn

-- the policy's device that is this source has this name
abbrev pub is_of_policy : Source → DmaDevice → Bool
is_of_policy p e = option_map_or (λ (d : Device). bytes_eq d.name e.name) (device_of p (listed_source e)) false

-- a device that stands in a domain has its name in the list
abbrev pub is_listed : Source → DmaFile → Device → Bool
is_listed p t d = not (is_some (domain_of p d.name)) || is_some (find (λ (e : DmaDevice). bytes_eq e.name d.name) t.devices)

-- the first device of the list that the policy hasn't there, or else the policy's first that isn't listed
unfoldable pub listing_fault : Source → DmaFile → Option (List ℕ)
listing_fault p t =
    first_of (
    first_in (λ (e : DmaDevice). unless (is_of_policy p e) e.name) t.devices
    ∷ first_in (λ (d : Device). unless (is_listed p t d) d.name) p.devices
    ∷ []
    )

-- ---- the whole

abbrev pub of_listing : List ℕ → DmaFault
of_listing device = Listing device

abbrev pub of_tables : TableFault → DmaFault
of_tables fault = Tables fault

abbrev pub verdict : Source → Image → DmaFile → Option DmaFault
verdict p i t = first_of (option_map of_listing (listing_fault p t) ∷ option_map of_tables (table_fault (view_of p i t)) ∷ [])

-- over whatever parts of an image have these spans
abbrev pub OverImages : List SpanPart → (Image → Type 0) → Type 0
OverImages spans Holds = (i : Image) → IsParts i → spans ≡ i.spans → Holds i

-- ---- what it is for

-- where the policy declares the byte that a device of this name reads, or writes, by an address
abbrev pub access_declared : Source → Image → List ℕ → ℕ → Bool → Option ℕ
access_declared p i device addr write = comes_to (led (address_of p i) (dma_access p device addr (if write then Write else Read)))

-- by the walk of its name, as a run takes it, each device of the policy reads and writes where it is declared, and nowhere else
abbrev pub ReachAsDeclared : Source → Image → DmaFile → Type 0
ReachAsDeclared p i t =
    All (λ d. (addr : ℕ) (write : Bool) → dma_walk t d.name addr write ≡ access_declared p i d.name addr write) p.devices
