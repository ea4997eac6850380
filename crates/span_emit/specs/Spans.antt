-- The spans of an image (this project's own format): regions at their addresses, and devices' memory.
use Rattle.std.specs.Prelude.{ℕ, ◌/◌, List, map, zip}
use Rattle.std.specs.List.{enumerate_from}
use Rattle.expand_kernel.specs.thing.Region.{Region}
use Rattle.expand_kernel.specs.thing.RegionKind.{RegionKind}
use Rattle.expand_kernel.specs.thing.RegionKind.TheVariants.{Own as OwnRegion, Channel as ChannelRegion, Provided as ProvidedRegion, Device as DeviceRegion, Kernel as KernelRegion}
use Rattle.image_pack.specs.declared.parts.SpanKind.{SpanKind}
use Rattle.image_pack.specs.declared.parts.SpanKind.TheVariants.{Own, Channel, Provided, Kernel, Device}
use Rattle.image_pack.specs.declared.parts.SpanPart.{SpanPart}
use Rattle.muen_num.specs.declared.limits.TheConstants.{PAGE}
use Rattle.muen_num.specs.declared.tag.TagPart.TheVariants.{Named}
use Rattle.policy_lawful.specs.ByIndex.{memories_of}
use Rattle.policy_lawful.specs.source.Device.{Device as SourceDevice}
use Rattle.policy_lawful.specs.source.DeviceMemory.{DeviceMemory}

abbrev pub span_kind : RegionKind → SpanKind
span_kind OwnRegion = Own
span_kind ChannelRegion = Channel
span_kind ProvidedRegion = Provided
span_kind DeviceRegion = Device
span_kind KernelRegion = Kernel

-- the region of this number at its address
abbrev pub region_span : ℕ × (Region × ℕ) → SpanPart
region_span (number, (r, address)) =
    record { address = address; pages = r.size / PAGE; number = number; kind = span_kind r.kind; tag = r.tag }

abbrev pub region_spans : List Region → List ℕ → List SpanPart
region_spans regions addresses = map region_span (enumerate_from 0 (zip regions addresses))

abbrev pub device_span : ℕ × (List ℕ × DeviceMemory) → SpanPart
device_span (number, (device, m)) = record {
  address = m.physical_address;
  pages = m.size / PAGE;
  number = number;
  kind = Device;
  tag = record { owner = device; part = Named m.name };
}

-- numbered from this number on
abbrev pub device_spans : ℕ → List SourceDevice → List SpanPart
device_spans first devices = map device_span (enumerate_from first (memories_of devices))
