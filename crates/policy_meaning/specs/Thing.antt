-- What has memory: each thing of a policy, by its kind and its names, with what is declared of it (Muen system policy: memory,
-- channels, components, devices).
use Rattle.std.specs.Prelude.{ℕ, ◌&&◌, Bool, true, false, List, [], ◌++◌, map, Option, Some, None, option_map}
use Rattle.std.specs.List.{find, flat_map}
use Rattle.std.specs.Option.{option_map_or}
use Rattle.std.specs.Str.{bytes_eq}
use Rattle.muen_num.specs.declared.limits.TheConstants.{PAGE}
use Rattle.muen_num.specs.declared.tag.TagPart.TheVariants.{Whole, Named, State}
use Rattle.muen_num.specs.declared.tag.Tag.{Tag}
use Rattle.policy_types.specs.declared.source.Channel.{Channel}
use Rattle.policy_types.specs.declared.source.Component.{Component}
use Rattle.policy_types.specs.declared.source.ComponentUse.{ComponentUse}
use Rattle.policy_types.specs.declared.source.Content.{Content}
use Rattle.policy_types.specs.declared.source.Content.TheVariants.{Zero}
use Rattle.policy_types.specs.declared.source.DeviceMemory.{DeviceMemory}
use Rattle.policy_types.specs.declared.source.Provided.{Provided}
use Rattle.policy_types.specs.declared.source.Region.{Region}
use Rattle.policy_types.specs.declared.source.Source.{Source}

pub data Thing : Type 0 where
  -- a region of memory
  region : List ℕ → Thing
  -- a channel
  channel : List ℕ → Thing
  -- a subject's own region, by the logical name of its component
  provided : List ℕ → List ℕ → Thing
  -- a device's memory
  device_memory : List ℕ → List ℕ → Thing
  -- the state page of a subject
  state : List ℕ → Thing

abbrev pub same_thing : Thing → Thing → Bool
same_thing (region a) (region b) = bytes_eq a b
same_thing (channel a) (channel b) = bytes_eq a b
same_thing (provided s a) (provided t b) = bytes_eq s t && bytes_eq a b
same_thing (device_memory d a) (device_memory e b) = bytes_eq d e && bytes_eq a b
same_thing (state a) (state b) = bytes_eq a b
same_thing _ _ = false

-- the name by which a thing is printed
abbrev pub thing_tag : Thing → Tag
thing_tag (region name) = record { owner = name; part = Whole }
thing_tag (channel name) = record { owner = name; part = Whole }
thing_tag (provided subject logical) = record { owner = subject; part = Named logical }
thing_tag (device_memory device memory) = record { owner = device; part = Named memory }
thing_tag (state subject) = record { owner = subject; part = State }

-- the memory of a device
abbrev pub is_device : Thing → Bool
is_device (device_memory device memory) = true
is_device _ = false

-- the component that a subject uses
abbrev pub component_by : Source → Option ComponentUse → Option Component
component_by p None = None
component_by p (Some used) = find (λ c. bytes_eq c.name used.used) p.components

-- ---- what has memory

-- a thing with its size, what it holds at the start, its alignment, and where it has to be, if anywhere
pub record Item : Type 0 where
  pub thing : Thing
  pub size : ℕ
  pub content : Content
  pub alignment : ℕ
  pub address : Option ℕ

abbrev pub region_item : Region → Item
region_item r = record { thing = region r.name; size = r.size; content = r.content; alignment = r.alignment; address = r.physical_address }

abbrev pub channel_item : Channel → Item
channel_item c = record { thing = channel c.name; size = c.size; content = Zero; alignment = PAGE; address = None }

abbrev pub provided_item : List ℕ → Provided → Item
provided_item subject x =
    record { thing = provided subject x.logical; size = x.size; content = x.content; alignment = PAGE; address = None }

abbrev pub device_item : List ℕ → DeviceMemory → Item
device_item device m =
    record { thing = device_memory device m.name; size = m.size; content = Zero; alignment = PAGE; address = Some m.physical_address }

-- those that a component brings along for this subject
abbrev pub provided_items : List ℕ → Option Component → List Item
provided_items subject c = map (provided_item subject) (option_map_or (λ c. c.provides) c [])

-- what is placed, by number: regions, channels, each subject's provided regions
unfoldable pub placed_items : Source → List Item
placed_items p =
    map region_item p.memory
    ++ map channel_item p.channels
    ++ flat_map (λ s. provided_items s.name (component_by p s.component)) p.subjects

-- the devices' memory
unfoldable pub device_items : Source → List Item
device_items p = flat_map (λ d. map (device_item d.name) d.memory) p.devices

-- all that has memory but the state pages, by number
unfoldable pub items_of : Source → List Item
items_of p = placed_items p ++ device_items p

unfoldable pub item_of : Source → Thing → Option Item
item_of p thing = find (λ i. same_thing i.thing thing) (items_of p)

-- all things of a policy but the state pages, in the order of their numbers
unfoldable pub things_of : Source → List Thing
things_of p = map (λ i. i.thing) (items_of p)

-- the declared size of a thing, whatever the length of its contents
unfoldable pub declared_size : Source → Thing → Option ℕ
declared_size p thing = option_map (λ i. i.size) (item_of p thing)
