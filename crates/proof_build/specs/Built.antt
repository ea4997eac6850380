-- What an image of a policy has beside being sound: its spans are the policy's regions and devices, what a subject's part
-- numbers is the subject's own, tables ascend along a walk, what no walk reads of them is zero,
-- and its pages are the greatest and have the memory types of what they show (Intel SDM volume 3, "VMX Support for Address Translation").
-- And when it is the one image of a policy and files.
use Rattle.std.specs.Prelude.{◌≡◌, ◌⊎◌, ℕ, ◌+◌, ◌*◌, ◌/◌, ◌%◌, ◌<◌, ◌≤◌, ◌&&◌, nat_le, Bool, true, List, ◌++◌, length, map, replicate, Ok, Some}
use Rattle.std.specs.List.{All, find, list_any}
use Rattle.std.specs.Option.{IfSome}
use Rattle.std.specs.Str.{bytes_eq}
use Rattle.machine_layout.specs.Reads.{Reads}
use Rattle.ept_emit.specs.Entries.{type_of}
use Rattle.expand_kernel.specs.Regions.{regions_of}
use Rattle.image_emit.specs.Made.{IsEmitted}
use Rattle.image_soundness.specs.Memory.{Span, by_number, memory_of, span_at}
use Rattle.image_soundness.specs.Named.{tag_at}
use Rattle.image_soundness.specs.Sound.{address_of, is_tables}
use Rattle.image_soundness.specs.ThingBytes.{thing_bytes}
use Rattle.image_pack.specs.SpanConditions.{end_of}
use Rattle.image_pack.specs.declared.parts.Image.{Image}
use Rattle.image_pack.specs.declared.parts.SubjectPart.{SubjectPart}
use Rattle.machine_layout.specs.Memory.{page_of}
use Rattle.machine_layout.specs.Walks.{addresses_read, leaf_size, leaf_type, entry_size, root_of}
use Rattle.muen_num.specs.declared.limits.TheConstants.{GUEST_END, PAGE}
use Rattle.muen_num.specs.declared.tag.Tag.{Tag}
use Rattle.muen_num.specs.declared.tag.TagPart.{TagPart}
use Rattle.muen_num.specs.declared.tag.TagPart.TheVariants.{State, Ept, Iobm, Msrbm, Msrs}
use Rattle.policy_lawful.specs.Contents.{Held}
use Rattle.policy_lawful.specs.Resolution.{source_of}
pub use Rattle.policy_lawful.specs.Things.{thing_caching}
use Rattle.policy_lawful.specs.Thing.{Thing}
use Rattle.policy_lawful.specs.Windows.{Window, holds, windows_of}
use Rattle.policy_lawful.specs.source.Source.{Source}
use Rattle.policy_lawful.specs.source.Subject.{Subject}
use Rattle.region_alloc.specs.Placed.{Placement}
use Rattle.region_alloc.specs.Placement.{placement_of}
use Rattle.span_emit.specs.Spans.{device_spans, region_spans}

-- ---- spans

-- by number, the spans are the policy's regions with their tags, kinds, pages and the addresses that the policy's placement
-- has for them, and then the devices' memory at its physical addresses
pub record HasSpans (p : Source) (i : Image) : Type 0 where
  pub addresses : List ℕ
  pub are : placement_of p ≡ Ok addresses
  pub spans : map (λ e. e.0) (by_number i) ≡ region_spans (regions_of p) addresses ++ device_spans (length (regions_of p)) p.devices

-- the tag of a region of the kernel for the subject of this name
abbrev pub kernel_tag : List ℕ → TagPart → Tag
kernel_tag subject part = record { owner = subject; part = part }

-- the eight bytes from this address on lie in the span of the tables of the subject of this name
abbrev pub is_in_tables_of : Image → List ℕ → ℕ → Bool
is_in_tables_of i name at =
    list_any (λ s. is_tables s && bytes_eq s.tag.owner name && nat_le s.address at && nat_le (at + 8) (end_of s)) i.spans

-- what a subject's part of the image numbers are, by the tags of these spans, the kernel's regions for this subject, and the
-- entries that its walks read lie in that of its tables
pub record HasKernelSpans (i : Image) (s : Subject) (q : SubjectPart) : Type 0 where
  pub state : tag_at i q.state ≡ Some (kernel_tag s.name State)
  pub tables : (addr : ℕ) → addr < GUEST_END → All (λ at. is_in_tables_of i s.name at ≡ true) (addresses_read (memory_of i) q.eptp addr)
  pub iobm : tag_at i q.iobm ≡ Some (kernel_tag s.name Iobm)
  pub msrbm : tag_at i q.msrbm ≡ Some (kernel_tag s.name Msrbm)
  pub area : tag_at i q.area ≡ Some (kernel_tag s.name Msrs)

-- ---- along a walk

-- along the walk for an address of a subject the pages of tables ascend
abbrev pub TablesAscend : Image → SubjectPart → Type 0
TablesAscend i q =
    (addr level page lower lower_page : ℕ) → addr < GUEST_END → Reads (memory_of i) q.eptp addr level page → Reads (memory_of i) q.eptp addr lower lower_page
    → lower < level → page < lower_page

-- ---- pages of tables that no walk reads

-- a walk for some address of the subject reads the table in this page
pub record IsTablePage (i : Image) (q : SubjectPart) (page : ℕ) : Type 0 where
  pub addr : ℕ
  pub level : ℕ
  pub small : addr < GUEST_END
  pub reads : Reads (memory_of i) q.eptp addr level page

-- the span of the subject's tables begins with the table at which its walks begin, and each page of the span either has a table
-- that some walk for the subject reads, or has nothing but zeros
pub record HasNoSpareTables (i : Image) (s : Subject) (q : SubjectPart) : Type 0 where
  pub number : ℕ
  pub span : Span
  pub there : span_at i number ≡ Some span
  pub tag : span.0.tag ≡ kernel_tag s.name Ept
  pub root : span.0.address / PAGE ≡ root_of q.eptp
  pub pages : (k : ℕ) → k < span.0.pages
      → IsTablePage i q (span.0.address / PAGE + k) ⊎ (page_of (memory_of i) (span.0.address / PAGE + k) ≡ Some (replicate PAGE 0))

-- ---- the greatest pages

-- a page of this level around an address fits a window on what lies at this address: a page of 4 KiB, 2 MiB or 1 GiB, modulo
-- whose size guest and physical address agree, and whose aligned range of addresses lies wholly in the window
pub record FitsWindow (w : Window Thing) (address level addr : ℕ) : Type 0 where
  pub small : level ≤ 2
  pub agrees : w.guest % entry_size level ≡ address % entry_size level
  pub begins : w.guest ≤ entry_size level * (addr / entry_size level)
  pub ends : entry_size level * (addr / entry_size level) + entry_size level ≤ w.guest + w.size

-- a size is the greatest of a page that fits the window
pub record IsGreatestPage (w : Window Thing) (address addr size : ℕ) : Type 0 where
  pub level : ℕ
  pub is : size ≡ entry_size level
  pub fits : FitsWindow w address level addr
  pub greatest : (higher : ℕ) → FitsWindow w address higher addr → higher ≤ level

-- each address of a window of the subject is mapped by the greatest page
abbrev pub HasGreatestPages : Source → Image → Subject → SubjectPart → Type 0
HasGreatestPages p i s q =
    (addr : ℕ) → addr < GUEST_END
    → IfSome (find (λ w. holds w addr) (windows_of p s)) (λ w. IsGreatestPage w (address_of p i w.thing) addr (leaf_size (memory_of i) q.eptp addr))

-- ---- memory types

-- each address of a window of the subject is mapped with the memory type of what the window shows
abbrev pub HasMemoryTypes : Source → Image → Subject → SubjectPart → Type 0
HasMemoryTypes p i s q =
    (addr : ℕ) → addr < GUEST_END
    → IfSome (find (λ w. holds w addr) (windows_of p s)) (λ w. leaf_type (memory_of i) q.eptp addr ≡ Some (type_of (thing_caching p w.thing)))

-- ---- made of the policy

-- it is made of a placement of the policy, whose regions hold what the policy says over these files
pub record IsMadeFor (p : Source) (files : Held) (i : Image) : Type 0 where
  pub placed : Placement
  pub of_policy : source_of placed.expanded.lawful ≡ p
  pub emitted : IsEmitted placed (thing_bytes files placed.expanded.lawful) i
