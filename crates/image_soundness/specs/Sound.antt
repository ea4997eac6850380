-- When an image is sound for a policy and its files (this project's own; tables, bitmaps and areas as in Intel SDM volume 3).
use Rattle.std.specs.Prelude.{◌≡◌, ℕ, ◌+◌, ◌*◌, ◌<◌, ◌==◌, ◌&&◌, not, Bool, true, false, List, [], ◌∷◌, ◌++◌, map, filter, length, nat_le, slice_index_or, take, zip, Some, None, is_some, option_map}
use Rattle.std.specs.Option.{option_map_or}
use Rattle.std.specs.List.{All, AllPairs, AllZip, find, list_all, list_any}
use Rattle.std.specs.FinMap.{get}
use Rattle.std.specs.List.Sorted.{IsPermutation}
use Rattle.expand_grants.specs.Resources.{are_granted, is_granted, msrs_of, ports_of}
use Rattle.image_memory.specs.Memory.{Span, bytes_at, bytes_of, by_number, memory_of, page_at, address_at}
use Rattle.image_soundness.specs.Named.{bench_device, tag_at}
use Rattle.image_soundness.specs.Targets.{entry_event, event_index, irq_target, target_index}
use Rattle.image_pack.specs.Codes.{part_code}
use Rattle.image_pack.specs.Parts.{IsParts}
use Rattle.image_pack.specs.SpanConditions.{end_of}
use Rattle.image_pack.specs.declared.parts.DevicePart.{DevicePart}
use Rattle.image_pack.specs.declared.parts.Image.{Image}
use Rattle.image_pack.specs.declared.parts.IrqPart.{IrqPart}
use Rattle.image_pack.specs.declared.parts.SpanKind.{SpanKind}
use Rattle.image_pack.specs.declared.parts.SpanKind.TheVariants.{Own, Channel, Provided, Kernel, Device}
use Rattle.image_pack.specs.declared.parts.SpanPart.{SpanPart}
use Rattle.image_pack.specs.declared.parts.SubjectPart.{SubjectPart}
use Rattle.machine_layout.specs.Exits.{area_index, area_value, msr_exits, port_exits}
use Rattle.machine_layout.specs.Walks.{addresses_read, walk_of}
use Rattle.machine_layout.specs.declared.walk.Walk.{Walk}
use Rattle.machine_layout.specs.declared.walk.Walk.TheVariants.{At, Violation}
use Rattle.muen_num.specs.Range.{numbers_below}
use Rattle.muen_num.specs.declared.access.AccessKind.{AccessKind}
use Rattle.muen_num.specs.declared.limits.TheConstants.{GUEST_END, MOST_CALLS, PAGE}
use Rattle.muen_num.specs.declared.tag.TagPart.TheVariants.{Ept}
use Rattle.image_soundness.specs.PlanOf.{IsPlanOf}
use Rattle.policy_lawful.specs.Lawful.{IsLawful}
use Rattle.policy_lawful.specs.Contents.{Held, initial_bytes}
use Rattle.policy_lawful.specs.Events.{event_of, irq_of}
use Rattle.policy_lawful.specs.Thing.{Thing, channel, declared_size, device_memory, items_of, provided, region, same_thing, state, thing_tag, things_of}
use Rattle.policy_lawful.specs.Windows.{Access, access_of, byte, violation, windows_of}
use Rattle.policy_lawful.specs.Rights.{found_bits}
use Rattle.policy_lawful.specs.source.Content.{Content}
use Rattle.policy_lawful.specs.source.Content.TheVariants.{File}
use Rattle.policy_lawful.specs.source.Device.{Device as SourceDevice}
use Rattle.policy_lawful.specs.source.Irq.{Irq}
use Rattle.policy_lawful.specs.source.Source.{Source}
use Rattle.policy_lawful.specs.source.SourceWay.TheVariants.{Call, Trap}
use Rattle.policy_lawful.specs.source.Subject.{Subject}
use Rattle.state_page.specs.StatePage.{page_bytes}
use Rattle.image_soundness.specs.Bench.{bench_device as device_of}
use Rattle.policy_lawful.specs.Frames.{group_of}
use Rattle.state_page.specs.States.{started}

-- of each subject that both have, by its index: the policy's, and its part of the image
abbrev pub ForEachSubject : Source → Image → (Subject → SubjectPart → Type 0) → Type 0
ForEachSubject p i Holds = All (λ e. Holds e.0 e.1) (zip p.subjects i.subjects)

-- ---- files: what contents name

-- the file that a content names, if it does, is held
abbrev pub is_file_held : Held → Content → Bool
is_file_held files (File name offset most) = is_some (get files name)
is_file_held files content = true

-- **the files** that the policy's contents name are held. So no content takes a file that isn't there for an empty one
abbrev pub AreFilesHeld : Source → Held → Type 0
AreFilesHeld p files = list_all (λ i. is_file_held files i.content) (items_of p) ≡ true

-- ---- contents: which spans there are

abbrev pub kind_of : Thing → SpanKind
kind_of (region name) = Own
kind_of (channel name) = Channel
kind_of (provided subject logical) = Provided
kind_of (device_memory device memory) = Device
kind_of (state subject) = Kernel

abbrev pub is_kernel : SpanKind → Bool
is_kernel Kernel = true
is_kernel kind = false

-- the spans that aren't the kernel's, in the order of their numbers
abbrev pub thing_spans : Image → List Span
thing_spans i = filter (λ e. not (is_kernel e.0.kind)) (by_number i)

-- a span is that of a thing: it has its name, its kind, the size that the policy declares, and its bytes at the start
pub record IsSpanOf (p : Source) (files : Held) (x : Thing) (e : Span) : Type 0 where
  pub tag : e.0.tag ≡ thing_tag x
  pub kind : e.0.kind ≡ kind_of x
  pub size : declared_size p x ≡ Some (PAGE * e.0.pages)
  pub bytes : bytes_of e ≡ initial_bytes p files x

-- **the contents**: the spans that aren't the kernel's are the things of the policy, in their order
abbrev pub AreContents : Source → Held → Image → Type 0
AreContents p files i = AllZip (IsSpanOf p files) (things_of p) (thing_spans i)

-- ---- walks: where tables lead

-- each thing with the address of its span; the state page of a subject lies where the subject's part of the image says
abbrev pub addresses_of_things : Source → Image → List (Thing × ℕ)
addresses_of_things p i =
    zip (things_of p) (map (λ e. e.0.address) (thing_spans i))
    ++ zip (map (λ s. state s.name) p.subjects) (map (λ q. address_at i q.state) i.subjects)

unfoldable pub address_of : Source → Image → Thing → ℕ
address_of p i x = option_map_or (λ e. e.1) (find (λ e. same_thing e.0 x) (addresses_of_things p i)) 0

-- where an access is led: to the byte's address, or to a violation with the rights that were found
abbrev pub led : (Thing → ℕ) → Access Thing → Walk
led address (byte x offset) = At (address x + offset)
led address (violation found) = Violation (found_bits found)

-- **the walks** for a subject's guest addresses go exactly where its windows lead
abbrev pub HasWalks : Source → Image → Subject → SubjectPart → Type 0
HasWalks p i s q =
    (addr : ℕ) (kind : AccessKind) → addr < GUEST_END
    → walk_of (memory_of i) q.eptp addr kind ≡ led (address_of p i) (access_of (windows_of p s) addr kind)

-- ---- tables: where entries lie

abbrev pub is_tables : SpanPart → Bool
is_tables s = is_kernel s.kind && (part_code s.tag.part == part_code Ept)

-- the eight bytes from this address on lie in a span of tables
abbrev pub is_in_tables : Image → ℕ → Bool
is_in_tables i at = list_any (λ s. is_tables s && nat_le s.address at && nat_le (at + 8) (end_of s)) i.spans

-- **the tables**: each entry that a walk for a subject reads lies in a span of tables
abbrev pub ReadsTables : Image → SubjectPart → Type 0
ReadsTables i q =
    (addr : ℕ) → addr < GUEST_END → All (λ at. is_in_tables i at ≡ true) (addresses_read (memory_of i) q.eptp addr)

-- ---- bitmaps

-- **the bitmaps**: exactly those accesses of ports and MSRs don't exit that the policy grants the subject
pub record HasBitmaps (p : Source) (i : Image) (s : Subject) (q : SubjectPart) : Type 0 where
  pub ports : (port size : ℕ) → port_exits (page_at i q.iobm 0) (page_at i q.iobm 1) port size ≡ not (are_granted (ports_of p s) port size)
  pub msrs : (index : ℕ) (write : Bool) → msr_exits (page_at i q.msrbm 0) index write ≡ not (is_granted (msrs_of s) index write)

-- ---- MSR areas

-- **the MSR area** has an entry for each granted MSR, with the value 0
pub record HasArea (i : Image) (s : Subject) (q : SubjectPart) : Type 0 where
  pub many : q.msrs ≡ length (msrs_of s)
  pub each : IsPermutation (map (λ m. m.index) (msrs_of s)) (map (area_index (bytes_at i q.area)) (numbers_below q.msrs))
  pub zeros : (n : ℕ) → n < q.msrs → area_value (bytes_at i q.area) n ≡ 0

-- ---- states

-- **the state page** is that of the state at the start, with zeros elsewhere
abbrev pub IsFresh : Image → Subject → SubjectPart → Type 0
IsFresh i s q = page_at i q.state 0 ≡ page_bytes (started s.entry)

-- ---- own pages

-- the spans of a subject's state, bitmaps and MSR area
abbrev pub own_spans : SubjectPart → List ℕ
own_spans q = q.state ∷ q.iobm ∷ q.msrbm ∷ q.area ∷ []

abbrev pub share_a_span : SubjectPart → SubjectPart → Bool
share_a_span a b = list_any (λ n. list_any (λ m. m == n) (own_spans b)) (own_spans a)

-- no two of these share one of these spans
abbrev pub ShareNoSpan : List SubjectPart → Type 0
ShareNoSpan subjects = AllPairs (λ a b. share_a_span a b ≡ false) subjects

-- **own pages**: no two of the subjects that both have share one of these spans
abbrev pub HaveOwnPages : Source → Image → Type 0
HaveOwnPages p i = ShareNoSpan (take (length p.subjects) i.subjects)

-- ---- plan and events

-- a subject is that of the policy: its name, CPU and group, and what its calls and traps raise, by the targets' indexes
pub record IsSubjectOf (p : Source) (s : Subject) (q : SubjectPart) : Type 0 where
  pub name : q.name ≡ s.name
  pub cpu : q.cpu ≡ s.cpu
  pub in_group : group_of p s.name ≡ Some q.group
  pub calls : (n : ℕ) → n < MOST_CALLS → option_map entry_event (slice_index_or q.calls n None) ≡ option_map (event_index p) (event_of p s (Call n))
  pub traps : (n : ℕ) → n < MOST_CALLS → option_map entry_event (slice_index_or q.traps n None) ≡ option_map (event_index p) (event_of p s (Trap n))

-- an interrupt goes where the policy grants it
abbrev pub IsIrqOf : Source → SourceDevice → Irq → IrqPart → Type 0
IsIrqOf p d irq q = option_map irq_target q.target ≡ option_map (target_index p) (irq_of p d.name irq.name)

-- a device is that of the policy: a record may name the same of it, its windows are the spans of its own memory, in order, and
-- its interrupts go where the policy's do
pub record IsDeviceOf (p : Source) (i : Image) (d : SourceDevice) (q : DevicePart) : Type 0 where
  pub may : bench_device i q ≡ device_of d
  pub windows : map (λ w. tag_at i w.span) q.windows ≡ map (λ m. Some (thing_tag (device_memory d.name m.name))) d.memory
  pub irqs : AllZip (IsIrqOf p d) d.irqs q.irqs

-- **plan and events**: subjects, CPUs, groups, frames, the scheduler subject's region and devices are the policy's
pub record HasPlanAndEvents (p : Source) (i : Image) : Type 0 where
  pub many : length i.subjects ≡ length p.subjects
  pub subjects : ForEachSubject p i (IsSubjectOf p)
  pub cpus : i.header.cpus ≡ p.processor.logical_cpus
  pub plan : IsPlanOf p i.plan
  pub tau0 : option_map (tag_at i) i.header.tau0 ≡ option_map (λ t. Some (thing_tag (region t.region))) p.scheduling.tau0
  pub devices : AllZip (IsDeviceOf p i) p.devices i.devices

-- ---- the whole

-- **the image is sound** for a policy and files that hold this
pub record IsSound (p : Source) (files : Held) (i : Image) : Type 0 where
  pub lawful : IsLawful p
  -- it keeps the conditions of its format
  pub parts : IsParts i
  pub held : AreFilesHeld p files
  pub contents : AreContents p files i
  pub walks : ForEachSubject p i (HasWalks p i)
  pub tables : ForEachSubject p i (λ s q. ReadsTables i q)
  pub bitmaps : ForEachSubject p i (HasBitmaps p i)
  pub msr_areas : ForEachSubject p i (HasArea i)
  pub fresh_states : ForEachSubject p i (IsFresh i)
  pub own_pages : HaveOwnPages p i
  pub plan_and_events : HasPlanAndEvents p i
