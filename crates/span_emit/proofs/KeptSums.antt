-- Rule 20: how many regions and how much memory of devices there is, and how much they take.
use Rattle.std.proofs.Common.{◌≡◌, ℕ, ◌+◌, ◌≤◌, List, [], ◌∷◌, ◌++◌, length, map, Option, Some, None, refl, sym, ap, ◌∙◌, arith, length-append}
use Rattle.std.specs.List.{flat_map, sum_by}
use Rattle.std.specs.Option.{option_map_or}
use Rattle.std.proofs.lemmas.List.{length-map}
use Rattle.std.proofs.lemmas.List.Sums.{sum_by-append, sum_by-cons}
use Rattle.expand_kernel.specs.Regions.{kernel_regions_of, region_of, regions_of}
use Rattle.muen_num.proofs.Lists.{sum_by-map}
use Rattle.muen_num.specs.declared.limits.TheConstants.{MOST_BLOCK_BYTES, MOST_DEVICE_BYTES, MOST_DEVICE_WINDOWS, MOST_REGIONS}
use Rattle.policy_lawful.specs.Rules.{offence_20, regions_for}
use Rattle.policy_lawful.specs.Thing.{Item, channel_item, component_by, placed_items, provided_item, provided_items, region_item}
use Rattle.policy_lawful.specs.source.Component.{Component}
use Rattle.policy_lawful.specs.source.Device.{Device}
use Rattle.policy_lawful.specs.source.DeviceMemory.{DeviceMemory}
use Rattle.policy_lawful.specs.source.Source.{Source}
use Rattle.policy_lawful.specs.source.Subject.{Subject}
use Rattle.policy_lawful.specs.ByIndex.{memories_of}
use Rattle.policy_lawful.proofs.KeptLimits.{limits_kept}

-- ---- how many regions

abbrev brought_to : Source → Subject → List Item
brought_to p s = provided_items s.name (component_by p s.component)

provided_length : (subject : List ℕ) (c : Option Component) → length (provided_items subject c) ≡ option_map_or (λ c. length c.provides) c 0
provided_length subject None = refl
provided_length subject (Some c) = length-map c.provides (provided_item subject)

each_for : (p : Source) (ss : List Subject) → length (flat_map (brought_to p) ss) + length (flat_map (kernel_regions_of p) ss) ≡ sum_by (regions_for p) ss
each_for p [] = refl
each_for p (s ∷ ss) =
    let here = provided_length s.name (component_by p s.component) in
    let brought = length-append (brought_to p s) (flat_map (brought_to p) ss) in
    let kernel = length-append (kernel_regions_of p s) (flat_map (kernel_regions_of p) ss) in
    omega (arith, here, brought, kernel, each_for p ss, sum_by-cons (regions_for p) s ss)

regions_length : (p : Source) → length (regions_of p) ≡ length p.memory + length p.channels + sum_by (regions_for p) p.subjects
unfolding regions_of placed_items
regions_length p =
    let own = map region_item p.memory in
    let ends = map channel_item p.channels in
    let brought = flat_map (brought_to p) p.subjects in
    let all = length-append (map region_of (placed_items p)) (flat_map (kernel_regions_of p) p.subjects) in
    let placed = length-map (placed_items p) region_of in
    let two = length-append (own ++ ends) brought in
    let one = length-append own ends in
    omega (arith, all, placed, two, one, length-map p.memory region_item, length-map p.channels channel_item, each_for p p.subjects)

-- ---- the memory of devices

pub windows_length : (ds : List Device) → length (memories_of ds) ≡ sum_by (λ d. length d.memory) ds
windows_length [] = refl
windows_length (d ∷ ds) =
    let named : DeviceMemory → List ℕ × DeviceMemory = λ m. (d.name, m) in
    let here : length (map named d.memory) ≡ length d.memory = length-map d.memory named in
    let rest = windows_length ds in
    length-append (map named d.memory) (memories_of ds)
    ∙ ap (λ n. n + length (memories_of ds)) here
    ∙ ap (λ n. length d.memory + n) rest
    ∙ sym (sum_by-cons (λ (d : Device). length d.memory) d ds)

windows_size : (ds : List Device) → sum_by (λ x. x.1.size) (memories_of ds) ≡ sum_by (λ d. sum_by (λ m. m.size) d.memory) ds
windows_size [] = refl
windows_size (d ∷ ds) =
    let named : DeviceMemory → List ℕ × DeviceMemory = λ m. (d.name, m) in
    let size : List ℕ × DeviceMemory → ℕ = λ x. x.1.size in
    sum_by-append size (map named d.memory) (memories_of ds)
    ∙ ap (λ n. n + sum_by size (memories_of ds)) (sum_by-map size named d.memory)
    ∙ ap (λ n. sum_by (λ (m : DeviceMemory). m.size) d.memory + n) (windows_size ds)
    ∙ sym (sum_by-cons (λ (d : Device). sum_by (λ m. m.size) d.memory) d ds)

-- ---- what the rule says

pub record SumsKept (p : Source) : Type 0 where
  pub regions : length (regions_of p) ≤ MOST_REGIONS
  pub block_bytes : sum_by (λ b. b.size) p.memory_blocks ≤ MOST_BLOCK_BYTES
  pub windows : length (memories_of p.devices) ≤ MOST_DEVICE_WINDOWS
  pub device_bytes : sum_by (λ x. x.1.size) (memories_of p.devices) ≤ MOST_DEVICE_BYTES

pub sums_kept : (p : Source) → offence_20 p ≡ None → SumsKept p
sums_kept p h =
    let kept = limits_kept p h in
    let few = kept.regions in
    let many = regions_length p in
    let windows = kept.device_windows in
    let windows_are = windows_length p.devices in
    let bytes_of = kept.device_bytes in
    let bytes_are = windows_size p.devices in
    record {
      regions = omega arith;
      block_bytes = kept.block_bytes;
      windows = omega arith;
      device_bytes = omega arith;
    }
