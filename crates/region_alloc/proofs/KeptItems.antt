-- What a lawful policy keeps of each thing that has memory: whole pages, an alignment, and an address that it says fits.
use Rattle.std.proofs.Common.{◌≡◌, ℕ, ◌%◌, ◌+◌, ◌++◌, ◌∷◌, [], true, All, List, map, Option, Some, None, refl, subst}
use Rattle.std.specs.Prelude.{◌&&◌, ◌==◌, nat_le}
use Rattle.std.specs.List.{flat_map, list_all}
use Rattle.std.proofs.lemmas.Bool.{and_parts, eqb-true}
use Rattle.std.proofs.lemmas.List.Elements.{All-append, All-map, All-nil}
use Rattle.muen_num.proofs.Lists.{all_flat, all_passing}
use Rattle.muen_num.specs.Numbers.{is_page_aligned}
use Rattle.muen_num.specs.declared.limits.TheConstants.{PAGE, PHYSICAL_END}
use Rattle.policy_lawful.proofs.KeptAddresses.{addresses_kept, brings, is_memory, used_brings}
use Rattle.policy_lawful.specs.Rules.{is_alignment, is_fixed, is_guest, is_laid, is_page_size, is_physical, offence_4}
use Rattle.policy_lawful.specs.Thing.{Item, channel_item, component_by, device_item, device_items, placed_items, provided_item, provided_items, region_item}
use Rattle.policy_lawful.specs.source.Channel.{Channel}
use Rattle.policy_lawful.specs.source.Component.{Component}
use Rattle.policy_lawful.specs.source.Device.{Device}
use Rattle.policy_lawful.specs.source.DeviceMemory.{DeviceMemory}
use Rattle.policy_lawful.specs.source.Provided.{Provided}
use Rattle.policy_lawful.specs.source.Region.{Region}
use Rattle.policy_lawful.specs.source.Source.{Source}

pub record IsKept (i : Item) : Type 0 where
  pub size : is_page_size i.size ≡ true
  pub alignment : is_alignment i.alignment ≡ true
  pub fixed : (a : ℕ) → i.address ≡ Some a → (is_physical a i.size ≡ true) × (a % i.alignment ≡ 0)

-- it has to be at an address
pub record IsKeptThere (i : Item) : Type 0 where
  pub kept : IsKept i
  pub address : ℕ
  pub is : i.address ≡ Some address

-- ---- by kind

region_kept : (r : Region) → is_laid r ≡ true → IsKept (region_item r)
region_kept r h =
    let both = and_parts (is_page_size r.size && is_alignment r.alignment) (is_fixed r r.physical_address) h in
    let parts = and_parts (is_page_size r.size) (is_alignment r.alignment) both.0 in
    record {
      size = parts.0;
      alignment = parts.1;
      fixed = λ a e. let k = and_parts (is_physical a r.size) (a % r.alignment == 0) (subst (λ o. is_fixed r o ≡ true) e both.1) in (k.0, eqb-true (a % r.alignment) 0 k.1);
    }

channel_kept : (c : Channel) → is_page_size c.size ≡ true → IsKept (channel_item c)
channel_kept c h = record { size = h; alignment = refl; fixed = λ a e. absurd (cc) }

provided_kept : (subject : List ℕ) (x : Provided) → is_guest x.virtual_address x.size ≡ true → IsKept (provided_item subject x)
provided_kept subject x h =
    let both = and_parts (is_page_aligned x.virtual_address && is_page_size x.size) _ h in
    record { size = (and_parts (is_page_aligned x.virtual_address) (is_page_size x.size) both.0).1; alignment = refl; fixed = λ a e. absurd (cc) }

brought_kept : (subject : List ℕ) (c : Option Component) → ((x : Component) → c ≡ Some x → brings x ≡ true) → All IsKept (provided_items subject c)
brought_kept subject None h = All-nil IsKept
brought_kept subject (Some c) h =
    All-map IsKept (provided_item subject) c.provides
    (all_passing (λ x. is_guest x.virtual_address x.size) (λ x. IsKept (provided_item subject x)) (provided_kept subject) c.provides (h c refl))

memory_kept : (device : List ℕ) (m : DeviceMemory) → is_memory m ≡ true → IsKeptThere (device_item device m)
memory_kept device m h =
    let both = and_parts (is_page_aligned m.physical_address && is_page_size m.size) (nat_le (m.physical_address + m.size) PHYSICAL_END) h in
    let parts = and_parts (is_page_aligned m.physical_address) (is_page_size m.size) both.0 in
    record {
      kept = record {
        size = parts.1;
        alignment = refl;
        fixed = λ a e. let same : m.physical_address ≡ a = cc in subst (λ a. (is_physical a m.size ≡ true) × (a % PAGE ≡ 0)) same (h, eqb-true (m.physical_address % PAGE) 0 parts.0);
      };
      address = m.physical_address;
      is = refl;
    }

-- ---- all

-- **what is placed**
pub items_kept : (p : Source) → offence_4 p ≡ None → All IsKept (placed_items p)
unfolding placed_items
items_kept p h =
    let kept = addresses_kept p h in
    All-append IsKept (map region_item p.memory ++ map channel_item p.channels) (flat_map (λ s. provided_items s.name (component_by p s.component)) p.subjects)
    (All-append IsKept (map region_item p.memory) (map channel_item p.channels)
    (All-map IsKept region_item p.memory (all_passing is_laid (λ r. IsKept (region_item r)) region_kept p.memory kept.regions))
    (All-map IsKept channel_item p.channels (all_passing (λ c. is_page_size c.size) (λ c. IsKept (channel_item c)) channel_kept p.channels kept.channels)))
    (all_flat IsKept (λ s. provided_items s.name (component_by p s.component)) (λ s. brought_kept s.name (component_by p s.component) (used_brings p s.component kept.components)) p.subjects)

each_device : (ds : List Device) → list_all (λ d. list_all is_memory d.memory) ds ≡ true → All IsKeptThere (flat_map (λ d. map (device_item d.name) d.memory) ds)
each_device [] h = All-nil IsKeptThere
each_device (d ∷ ds) h =
    let both = and_parts (list_all is_memory d.memory) (list_all (λ d. list_all is_memory d.memory) ds) h in
    All-append IsKeptThere (map (device_item d.name) d.memory) (flat_map (λ d. map (device_item d.name) d.memory) ds)
    (All-map IsKeptThere (device_item d.name) d.memory (all_passing is_memory (λ m. IsKeptThere (device_item d.name m)) (memory_kept d.name) d.memory both.0))
    (each_device ds both.1)

-- **the devices' memory**
pub device_items_kept : (p : Source) → offence_4 p ≡ None → All IsKeptThere (device_items p)
unfolding device_items
device_items_kept p h = each_device p.devices (addresses_kept p h).devices
