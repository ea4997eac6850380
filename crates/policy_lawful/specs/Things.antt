-- The things of a policy by number, with what is declared of each (Muen system policy: memory, channels, components, devices).
use Rattle.std.specs.Prelude.{◌≡◌, ℕ, List, [], ◌++◌, length, map, slice_get, Option, Some, None, option_and_then}
use Rattle.std.specs.Option.{option_map_or}
use Rattle.std.specs.List.{AllZip, enumerate_from, find, flat_map, position_or_len}
use Rattle.std.specs.Str.{bytes_eq}
use Rattle.muen_num.specs.declared.limits.TheConstants.{PAGE}
use Rattle.muen_num.specs.declared.tag.TagPart.{TagPart}
use Rattle.policy_lawful.specs.ByIndex.{provided_at}
use Rattle.policy_lawful.specs.Resolution.{Resolution, source_of}
use Rattle.policy_lawful.specs.Thing.{Item, Thing, channel, channel_item, device_item, device_memory, provided, provided_item, region, region_item, same_thing, state, thing_tag, things_of}
use Rattle.policy_lawful.specs.declared.resolved.ComponentUse.{ComponentUse}
use Rattle.policy_lawful.specs.declared.resolved.Subject.{Subject}
use Rattle.policy_lawful.specs.declared.thing.ContentIndex.{ContentIndex}
use Rattle.policy_lawful.specs.declared.thing.ContentIndex.TheVariants.{Zeros, Memory as MemoryContent, Provided as ProvidedContent}
use Rattle.policy_lawful.specs.declared.thing.Region.{Region}
use Rattle.policy_lawful.specs.declared.thing.RegionKind.{RegionKind}
use Rattle.policy_lawful.specs.declared.thing.RegionKind.TheVariants.{Own, Channel, Provided, Device, Kernel}
use Rattle.policy_lawful.specs.declared.thing.Thing.{Thing as NumberedThing}
use Rattle.policy_lawful.specs.declared.thing.ThingIndex.{ThingIndex}
use Rattle.policy_lawful.specs.declared.thing.ThingIndex.TheVariants.{Declared, State as StatePage}
use Rattle.policy_lawful.specs.rights.Caching.{Caching}
use Rattle.policy_lawful.specs.rights.Caching.TheVariants.{Uc, Wb}
use Rattle.policy_types.specs.declared.source.Channel.{Channel as SourceChannel}
use Rattle.policy_types.specs.declared.source.Component.{Component}
use Rattle.policy_types.specs.declared.source.Content.{Content}
use Rattle.policy_types.specs.declared.source.Content.TheVariants.{Zero}
use Rattle.policy_types.specs.declared.source.Device.{Device as SourceDevice}
use Rattle.policy_types.specs.declared.source.DeviceMemory.{DeviceMemory}
use Rattle.policy_types.specs.declared.source.Provided.{Provided as SourceProvided}
use Rattle.policy_types.specs.declared.source.Region.{Region as SourceRegion}
use Rattle.policy_types.specs.declared.source.Source.{Source}

-- ---- regions

-- a region that may be at any page
abbrev pub anywhere : RegionKind → List ℕ → TagPart → ℕ → Region
anywhere kind owner part size =
    record { tag = record { owner = owner; part = part }; kind = kind; size = size; alignment = PAGE; fixed = None }

abbrev pub region_kind : Thing → RegionKind
region_kind (region name) = Own
region_kind (channel name) = Channel
region_kind (provided subject logical) = Provided
region_kind (device_memory device memory) = Device
region_kind (state subject) = Kernel

-- of what the policy declares
abbrev pub region_of : Item → Region
region_of i = record { tag = thing_tag i.thing; kind = region_kind i.thing; size = i.size; alignment = i.alignment; fixed = i.address }

-- ---- by indexes

-- a thing with this memory type and this content
abbrev pub thing_with : Caching → ContentIndex → Region → NumberedThing
thing_with caching content y =
    record { tag = y.tag; kind = y.kind; size = y.size; alignment = y.alignment; fixed = y.fixed; caching = caching; content = content }

abbrev pub own_thing : ℕ × SourceRegion → NumberedThing
own_thing (index, m) = thing_with m.caching (MemoryContent index) (region_of (region_item m))

abbrev pub channel_thing : SourceChannel → NumberedThing
channel_thing c = thing_with Wb Zeros (region_of (channel_item c))

-- what a component at an index provides, for the subject of this name
abbrev pub provided_thing : List ℕ → ℕ → ℕ × SourceProvided → NumberedThing
provided_thing subject component (index, x) = thing_with Wb (ProvidedContent component index) (region_of (provided_item subject x))

abbrev pub brought_by : List Component → List ℕ → Option ComponentUse → List NumberedThing
brought_by components subject None = []
brought_by components subject (Some used) =
    map (provided_thing subject used.used) (enumerate_from 0 (provided_at components (Some used)))

-- what a subject's component brings along
abbrev pub brought_things : List Component → Subject → List NumberedThing
brought_things components s = brought_by components s.name s.component

abbrev pub device_thing : List ℕ → DeviceMemory → NumberedThing
device_thing device m = thing_with Uc Zeros (region_of (device_item device m))

abbrev pub device_things_of : SourceDevice → List NumberedThing
device_things_of d = map (device_thing d.name) d.memory

-- those that are placed: memory, channels, what each subject's component brings along
unfoldable pub placed_things : Resolution → List NumberedThing
placed_things r =
    map own_thing (enumerate_from 0 r.memory) ++ map channel_thing r.channels ++ flat_map (brought_things r.components) r.subjects

-- the devices' memory
unfoldable pub device_things : Resolution → List NumberedThing
device_things r = flat_map device_things_of r.devices

-- all, by number
abbrev pub things_by_number : Resolution → List NumberedThing
things_by_number r = placed_things r ++ device_things r

-- of these things the first so many are placed
pub record AreThings (r : Resolution) (placed : ℕ) (things : List NumberedThing) : Type 0 where
  pub all : things ≡ things_by_number r
  pub many : placed ≡ length (placed_things r)

-- ---- what is declared of them

-- the content that an index tells
abbrev pub content_found : Resolution → ContentIndex → Option Content
content_found r Zeros = None
content_found r (MemoryContent index) = option_and_then (λ m. Some m.content) (slice_get r.memory index)
content_found r (ProvidedContent component index) =
    option_and_then (λ c. option_and_then (λ x. Some x.content) (slice_get c.provides index)) (slice_get r.components component)

abbrev pub content_told : Option Content → Content
content_told None = Zero
content_told (Some content) = content

-- the memory type of a thing: that of the region, write-back where none is said, uncached of a device
abbrev pub thing_caching : Source → Thing → Caching
thing_caching p (region name) = option_map_or (λ r. r.caching) (find (λ r. bytes_eq r.name name) p.memory) Wb
thing_caching p (channel name) = Wb
thing_caching p (provided subject logical) = Wb
thing_caching p (device_memory device memory) = Uc
thing_caching p (state subject) = Wb

-- its region
abbrev pub region_of_thing : NumberedThing → Region
region_of_thing t = record { tag = t.tag; kind = t.kind; size = t.size; alignment = t.alignment; fixed = t.fixed }

-- the thing has what the policy declares
pub record IsThingOf (r : Resolution) (p : Source) (i : Item) (t : NumberedThing) : Type 0 where
  pub region : region_of_thing t ≡ region_of i
  pub caching : t.caching ≡ thing_caching p i.thing
  pub content : content_told (content_found r t.content) ≡ i.content

-- these things have what the source policy declares of these, one by one
abbrev pub AreDeclared : Resolution → List Item → List NumberedThing → Type 0
AreDeclared r items things = AllZip (IsThingOf r (source_of r)) items things

-- ---- numbers

-- the number of a thing that isn't a state page: where it stands among the things of the policy
abbrev pub thing_number : Source → Thing → ℕ
thing_number p x = position_or_len (λ t. same_thing t x) (things_of p)

-- the index of the subject of this name
abbrev pub subject_number : Source → List ℕ → ℕ
subject_number p name = position_or_len (λ s. bytes_eq s.name name) p.subjects

-- what a window shows, by number
abbrev pub thing_index : Source → Thing → ThingIndex
thing_index p (region name) = Declared (thing_number p (region name))
thing_index p (channel name) = Declared (thing_number p (channel name))
thing_index p (provided subject logical) = Declared (thing_number p (provided subject logical))
thing_index p (device_memory device memory) = Declared (thing_number p (device_memory device memory))
thing_index p (state subject) = StatePage (subject_number p subject)
