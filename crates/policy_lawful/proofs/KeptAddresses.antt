-- Rule 4: blocks and the memory of devices are ranges of physical memory, regions have their sizes, alignments and
-- addresses, channels are whole pages, and windows and what components provide are ranges of guest addresses.
use Rattle.std.proofs.Common.{◌≡◌, ◌+◌, ◌%◌, ◌<◌, ◌≤◌, Bool, true, Option, Some, None}
use Rattle.std.specs.Prelude.{◌&&◌, nat_le, nat_lt}
use Rattle.std.specs.List.{list_all}
use Rattle.std.specs.Str.{bytes_eq}
use Rattle.std.proofs.lemmas.Bool.{and_parts, eqb-true, leb-true, ltb-true}
use Rattle.policy_lawful.specs.Rules.{is_page_size, is_physical, is_guest, is_laid, component_offence, window_extents, window_offence, offence_4}
use Rattle.muen_num.specs.Numbers.{is_page_aligned}
use Rattle.muen_num.specs.Search.{first_in, unless}
use Rattle.muen_num.specs.declared.limits.TheConstants.{PAGE, PHYSICAL_END}
use Rattle.policy_lawful.specs.Offences.{alone, two}
use Rattle.policy_lawful.specs.Thing.{component_by}
use Rattle.policy_types.specs.declared.source.Component.{Component}
use Rattle.policy_types.specs.declared.source.ComponentUse.{ComponentUse}
use Rattle.policy_types.specs.declared.source.DeviceMemory.{DeviceMemory}
use Rattle.policy_types.specs.declared.source.Source.{Source}
use Rattle.muen_num.proofs.Lists.{found_among}
use Rattle.muen_num.proofs.SearchLaws.{all_none, all_pass, none_both}

-- memory of a device
abbrev pub is_memory : DeviceMemory → Bool
is_memory m = is_physical m.physical_address m.size

-- what a component provides is at ranges of guest addresses
abbrev pub brings : Component → Bool
brings c = list_all (λ x. is_guest x.virtual_address x.size) c.provides

pub record AddressesKept (p : Source) : Type 0 where
  pub blocks : list_all (λ b. is_physical b.physical_address b.size) p.memory_blocks ≡ true
  pub devices : list_all (λ d. list_all is_memory d.memory) p.devices ≡ true
  pub regions : list_all is_laid p.memory ≡ true
  pub channels : list_all (λ c. is_page_size c.size) p.channels ≡ true
  pub components : list_all brings p.components ≡ true
  pub windows : list_all (λ s. list_all (λ e. is_guest e.address e.size) (window_extents p s)) p.subjects ≡ true

pub component_brings : (c : Component) → component_offence c ≡ None → brings c ≡ true
component_brings c h =
    all_pass (λ x. is_guest x.virtual_address x.size) (λ x. two c.name x.logical) c.provides
    (none_both (first_in (λ x. unless (is_guest x.virtual_address x.size) (two c.name x.logical)) c.provides) _ h).0

pub addresses_kept : (p : Source) → offence_4 p ≡ None → AddressesKept p
unfolding offence_4
addresses_kept p h =
    let blocks = none_both (first_in (λ b. unless (is_physical b.physical_address b.size) (alone b.name)) p.memory_blocks) _ h in
    let devices = none_both (first_in (λ d. first_in (λ m. unless (is_physical m.physical_address m.size) (two d.name m.name)) d.memory) p.devices) _ blocks.1 in
    let regions = none_both (first_in (λ r. unless (is_laid r) (alone r.name)) p.memory) _ devices.1 in
    let channels = none_both (first_in (λ c. unless (is_page_size c.size) (alone c.name)) p.channels) _ regions.1 in
    let components = none_both (first_in component_offence p.components) _ channels.1 in
    let windows = none_both (first_in (window_offence p) p.subjects) None components.1 in
    record {
      blocks = all_pass (λ b. is_physical b.physical_address b.size) (λ b. alone b.name) p.memory_blocks blocks.0;
      devices = all_none (λ d. list_all is_memory d.memory) (λ d. first_in (λ m. unless (is_physical m.physical_address m.size) (two d.name m.name)) d.memory)
          (λ d none. all_pass is_memory (λ m. two d.name m.name) d.memory none)
          p.devices devices.0;
      regions = all_pass is_laid (λ r. alone r.name) p.memory regions.0;
      channels = all_pass (λ c. is_page_size c.size) (λ c. alone c.name) p.channels channels.0;
      components = all_none brings component_offence component_brings p.components components.0;
      windows = all_none (λ s. list_all (λ e. is_guest e.address e.size) (window_extents p s)) (window_offence p)
          (λ s none. all_pass (λ e. is_guest e.address e.size) (λ e. record { first = s.name; second = e.name }) (window_extents p s) none)
          p.subjects windows.0;
    }

-- ---- memory of a device

pub record IsPhysical (m : DeviceMemory) : Type 0 where
  pub aligned : m.physical_address % PAGE ≡ 0
  pub pages : m.size % PAGE ≡ 0
  pub some : 0 < m.size
  pub low : m.physical_address + m.size ≤ PHYSICAL_END

pub physical : (m : DeviceMemory) → is_memory m ≡ true → IsPhysical m
physical m h =
    let both = and_parts (is_page_aligned m.physical_address && is_page_size m.size) (nat_le (m.physical_address + m.size) PHYSICAL_END) h in
    let parts = and_parts (is_page_aligned m.physical_address) (is_page_size m.size) both.0 in
    let size = and_parts (is_page_aligned m.size) (nat_lt 0 m.size) parts.1 in
    record {
      aligned = eqb-true (m.physical_address % PAGE) 0 parts.0;
      pages = eqb-true (m.size % PAGE) 0 size.0;
      some = ltb-true 0 m.size size.1;
      low = leb-true _ _ both.1;
    }

-- ---- the component of a use

pub used_brings : (p : Source) (used : Option ComponentUse) → list_all brings p.components ≡ true → (x : Component) → component_by p used ≡ Some x → brings x ≡ true
used_brings p None all x e = absurd (cc)
used_brings p (Some used) all x e = found_among (λ c. bytes_eq c.name used.used) brings p.components x e all
