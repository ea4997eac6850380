-- A policy, worked out: its region `buf`, of a page, is placed at 0x107000, and its device `nic`, on bus 0 with devfn 24, stands in
-- a domain that has a window on `buf` at 4096, to read and write. Its tables are six pages from address 0 on.
use Rattle.std.proofs.Common.{◌≡◌, ℕ, ◌*◌, ◌/◌, ◌^◌, ◌<◌, All, true, [], ◌∷◌, List, refl, arith}
use Rattle.std.specs.Prelude.{Some, None, codes}
use Rattle.std.proofs.lemmas.List.Elements.{All-cons, All-nil}
use Rattle.dma_emit.specs.declared.devices.DomainDevice.{DomainDevice}
use Rattle.dma_emit.specs.declared.domains.Domains.{Domains}
use Rattle.dma_emit.specs.Base.{is_free}
use Rattle.dma_emit.specs.Domains.{domain_devices, domains_of, windows_of}
use Rattle.dma_emit.specs.Entries.{absent_entry, context_entry, root_entry}
use Rattle.dma_emit.specs.Layout.{buses, page_count}
use Rattle.dma_emit.specs.Reached.{placed_at}
use Rattle.ept_emit.specs.Entries.{leaf_entry, table_entry}
use Rattle.ept_emit.specs.Pages.{AreApart, IsMapped, count, ept_pages, is_taken}
use Rattle.ept_emit.specs.declared.window.GuestRange.{GuestRange}
use Rattle.ept_emit.specs.declared.window.Leaf.TheVariants.{Small}
use Rattle.ept_emit.specs.declared.window.Window.{Window}
use Rattle.ept_emit.proofs.Tallies.{tally_end, tally_start, tally_step}
use Rattle.expand_kernel.specs.Ordered.{in_order, inserted}
use Rattle.muen_num.specs.declared.access.AccessKind.TheVariants.{Read, Write}
use Rattle.policy_lawful.specs.Dma.{dma_access}
use Rattle.policy_lawful.specs.Resolution.{Resolution, source_of}
use Rattle.policy_lawful.specs.Rules.{extents_of}
use Rattle.policy_lawful.specs.rights.Caching.TheVariants.{Uc, Wb}
use Rattle.policy_lawful.specs.rights.Rights.TheVariants.{Rw}
use Rattle.policy_lawful.specs.source.Content.TheVariants.{Zero}
use Rattle.region_alloc.specs.Placed.{Placement}

-- ---- the policy

abbrev policy : Resolution
policy = record {
  processor = record { logical_cpus = 1 };
  memory_blocks = record { name = codes "ram"; physical_address = 0x100000; size = 0x10000 } ∷ [];
  devices = record { name = codes "nic"; memory = []; io_ports = []; irqs = []; bdf = Some (record { bus = 0; device = 3; function = 0 }) } ∷ [];
  memory = record { name = codes "buf"; size = 4096; caching = Wb; alignment = 4096; physical_address = None; content = Zero; shared_memory = [] } ∷ [];
  channels = [];
  components = [];
  events = [];
  subjects = [];
  scheduling = record { groups = []; major_frames = []; tau0 = None };
  device_domains = record { name = codes "d"; devices = codes "nic" ∷ []; memory = record { region = codes "buf"; virtual_address = 4096; rights = Rw } ∷ [] } ∷ [];
}

abbrev placed : Placement
placed = record { expanded = record { lawful = policy; regions = []; grants = []; routes = [] }; addresses = 0x107000 ∷ [] }

-- ---- its domains

abbrev nic : DomainDevice
nic = record { device = record { name = codes "nic"; bus = 0; devfn = 24 }; domain = 0 }

abbrev on_buf : Window
on_buf = record { guest = 4096; size = 4096; address = 0x107000; rights = Rw; caching = Uc; leaf = Small }

abbrev its : Domains
its = record { devices = nic ∷ []; windows = (on_buf ∷ []) ∷ [] }

domains_are : domains_of placed ≡ its
unfolding domain_devices windows_of in_order inserted source_of
domains_are = refl

-- ---- its pages

abbrev ranges : List GuestRange
ranges = record { guest = 4096; size = 4096 } ∷ []

apart : AreApart ranges
apart i j d l m = absurd (omega arith)

mapped : All IsMapped ranges
mapped = All-cons IsMapped (record { guest = 4096; size = 4096 }) [] (record { some = omega arith; end = omega arith }) (All-nil IsMapped)

-- one table for each level below the highest
one_table : (size : ℕ) → 0 < size → 2 ^ 48 ≡ 2 ^ 48 / size * size → 4096 / size ≡ 0 → 8191 / size ≡ 0 → count (is_taken ranges size) 0 (2 ^ 48 / size) ≡ 1
one_table size some whole first last =
    let start = tally_start ranges size apart in
    let d : GuestRange = record { guest = 0; size = 0 } in
    let step = tally_step ranges size 0 0 0 d some start (omega arith) mapped in
    let end = tally_end ranges size _ _ _ some whole step (omega arith) apart mapped in
    omega arith

tables_are : ept_pages ranges ≡ 4
tables_are =
    let great = one_table (2 ^ 39) (omega arith) refl refl refl in
    let middle = one_table (2 ^ 30) (omega arith) refl refl refl in
    let small = one_table (2 ^ 21) (omega arith) refl refl refl in
    omega arith

pages_are : page_count its ≡ 6
unfolding buses
pages_are = let four = tables_are in omega arith

-- they lie below the block of memory, from address 0 on
lies_low : is_free (extents_of (source_of policy)) (4096 * 6) 0 ≡ true
unfolding source_of
lies_low = refl

-- ---- its entries

root_is : root_entry its 0 0 ≡ record { low = 0x1001; high = 0 }
root_is = refl

no_other_bus : root_entry its 0 1 ≡ absent_entry
no_other_bus = refl

context_is : context_entry its 0 0 24 ≡ record { low = 0x2001; high = 0x102 }
unfolding buses
context_is = refl

no_other_device : context_entry its 0 0 25 ≡ absent_entry
no_other_device = refl

references_are : table_entry Rw 3 ∷ table_entry Rw 4 ∷ table_entry Rw 5 ∷ [] ≡ 0x3003 ∷ 0x4003 ∷ 0x5003 ∷ []
references_are = refl

page_is : leaf_entry on_buf 0 1 ≡ 0x107003
page_is = refl

-- ---- what the policy declares

a_write : placed_at placed (dma_access (source_of policy) (codes "nic") 4104 Write) ≡ Some 0x107008
unfolding source_of
a_write = refl

behind : placed_at placed (dma_access (source_of policy) (codes "nic") 8192 Read) ≡ None
unfolding source_of
behind = refl

another_device : placed_at placed (dma_access (source_of policy) (codes "hba") 4104 Read) ≡ None
unfolding source_of
another_device = refl
