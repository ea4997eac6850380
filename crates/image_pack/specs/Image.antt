-- The form of an image (this project's own format): which bytes spell which parts, and the conditions on them. A field's
-- conditions speak of it and of what stands before it.
use Rattle.std.specs.Prelude.{ℕ, ◌+◌, ◌-◌, ◌*◌, ◌%◌, ◌^◌, ◌==◌, ◌&&◌, ◌||◌, not, min, Bool, true, false, nat_lt, nat_le, List, [], ◌∷◌, ◌++◌, length, replicate, slice_set, slice_index_or, Option, Some, None, is_some, option_and_then, option_to_list, if◌then◌else◌}
use Rattle.std.specs.Int.{w16, w32, w64}
use Rattle.std.specs.List.{list_any, list_all, find, enumerate_from}
use Rattle.std.specs.Option.{option_map_or}
use Rattle.std.specs.Str.{bytes_eq}
use Rattle.muen_num.specs.declared.limits.TheConstants.{PAGE, PHYSICAL_END, MOST_BLOCK_BYTES, MOST_DEVICE_BYTES, MOST_CPUS, MOST_SUBJECTS, MOST_MAJOR_FRAMES, MOST_MINOR_FRAMES, MOST_TICKS, MOST_DEVICES, MOST_PER_DEVICE, MOST_REGIONS, MOST_DEVICE_WINDOWS, MOST_MSRS, MOST_CALLS}
use Rattle.muen_num.specs.declared.tag.TagPart.TheVariants.{State, Iobm, Msrbm, Msrs}
use Rattle.binary_form.specs.Form.{Form, number, byte, fixed_bytes, coded, present, absent_value, either, only, field, gap, done, items, each}
use Rattle.binary_form.specs.Name.{name}
use Rattle.binary_form.specs.declared.fault.Field.TheVariants as at
use Rattle.frame_clock.specs.Plan.{is_group_on}
use Rattle.frame_clock.specs.declared.plan.GroupPart.{GroupPart}
use Rattle.frame_clock.specs.declared.plan.Minor.{Minor}
use Rattle.frame_clock.specs.declared.plan.Major.{Major}
use Rattle.image_pack.specs.Codes.{mark_in, mark_bytes, kind_in, kind_bytes, is_device, is_own, part_code, part_name, part_of, is_part, event_in, event_bytes, target_of, subject_code, irq_vector_code, is_target_code}
use Rattle.image_pack.specs.declared.outline.Header.{Header}
use Rattle.image_pack.specs.declared.outline.Outline.{Outline}
use Rattle.image_pack.specs.declared.parts.SpanKind.{SpanKind}
use Rattle.image_pack.specs.declared.parts.SpanPart.{SpanPart}
use Rattle.image_pack.specs.declared.parts.EventPart.{EventPart}
use Rattle.image_pack.specs.declared.parts.SubjectPart.{SubjectPart}
use Rattle.muen_num.specs.declared.devices.PortSpan.{PortSpan}
use Rattle.image_pack.specs.declared.parts.WindowPart.{WindowPart}
use Rattle.image_pack.specs.declared.parts.IrqPart.{IrqPart}
use Rattle.image_pack.specs.declared.parts.DevicePart.{DevicePart}
use Rattle.image_pack.specs.declared.parts.Image.{Image}
use Rattle.image_pack.specs.declared.reading.spans.SpansBefore.{SpansBefore}
use Rattle.image_pack.specs.declared.reading.majors.CpuTicks.{CpuTicks}
use Rattle.image_pack.specs.declared.reading.majors.FramesBefore.{FramesBefore}

-- ---- numbers

abbrev pub is_between_inclusive : ℕ → ℕ → ℕ → Bool
is_between_inclusive low high n = nat_le low n && nat_le n high

-- the next number of a byte, and 255 after 255
abbrev pub next_byte : ℕ → ℕ
next_byte n = min (n + 1) 255

-- a sum that stays at the greatest number of 32 bits
abbrev pub sum32 : ℕ → ℕ → ℕ
sum32 a b = min (a + b) (2 ^ 32 - 1)

-- ---- the header: how many of each there are, and the span of tau0

abbrev pub mark : Form Bool
mark = coded 8 mark_in mark_bytes at.Magic

abbrev pub tau0_span : ℕ → Form ℕ
tau0_span spans = field (λ n. n) (only (λ n. nat_lt n spans) at.Span (number w16)) (λ n. gap 4 at.Zero (done n))

unfoldable pub tau0_at : Bool → ℕ → Form (Option ℕ)
tau0_at has spans = either has (present (tau0_span spans)) (absent_value 6 at.Zero)

unfoldable pub counts : Bool → Form Header
counts has =
    field (λ h. h.cpus) (only (is_between_inclusive 1 MOST_CPUS) at.Count byte) (λ cpus.
    field (λ h. h.subjects) (only (is_between_inclusive 1 MOST_SUBJECTS) at.Count byte) (λ subjects.
    field (λ h. h.groups) (only (is_between_inclusive 1 MOST_SUBJECTS) at.Count byte) (λ groups.
    field (λ h. h.majors) (only (is_between_inclusive 1 MOST_MAJOR_FRAMES) at.Count byte) (λ majors.
    field (λ h. h.devices) (only (λ n. nat_le n MOST_DEVICES) at.Count byte) (λ devices.
    gap 3 at.Zero (
    field (λ h. h.spans) (only (λ n. nat_le n (MOST_REGIONS + MOST_DEVICE_WINDOWS)) at.Count (number w16)) (λ spans.
    field (λ h. h.tau0) (tau0_at has spans) (λ tau0.
    done (record { cpus = cpus; subjects = subjects; groups = groups; majors = majors; devices = devices; spans = spans; tau0 = tau0 })))))))))

unfoldable pub header : Form Header
header = field (λ h. is_some h.tau0) mark counts

-- ---- spans: they ascend without overlap, and each number comes once

abbrev pub no_spans_before : Header → SpansBefore
no_spans_before h = record { end = 0; seen = replicate h.spans false; left = h.spans; pages = 0; device_pages = 0 }

abbrev pub pages_with : SpansBefore → SpanKind → ℕ → ℕ
pages_with b kind pages = if is_device kind then b.pages else sum32 b.pages pages

abbrev pub device_pages_with : SpansBefore → SpanKind → ℕ → ℕ
device_pages_with b kind pages = if is_device kind then sum32 b.device_pages pages else b.device_pages

-- what a span leaves for the next one
unfoldable pub after : Header → SpansBefore → SpanPart → SpansBefore
after h b s = record {
  end = s.address + PAGE * s.pages;
  seen = slice_set b.seen s.number true;
  left = b.left - 1;
  pages = pages_with b s.kind s.pages;
  device_pages = device_pages_with b s.kind s.pages;
}

-- whole pages, behind the span before
abbrev pub is_address : ℕ → ℕ → Bool
is_address end address = (address % PAGE == 0) && nat_le end address

abbrev pub is_span_size : ℕ → ℕ → Bool
is_span_size address pages = nat_lt 0 pages && nat_le (address + PAGE * pages) PHYSICAL_END

abbrev pub is_new : Header → SpansBefore → ℕ → Bool
is_new h b n = nat_lt n h.spans && not (slice_index_or b.seen n true)

-- the span that tau0 reads is a region of the policy
abbrev pub suits_tau0 : Option ℕ → ℕ → SpanKind → Bool
suits_tau0 None n kind = true
suits_tau0 (Some t) n kind = not (n == t) || is_own kind

-- all spans together have no more pages than there may be, those of devices counted apart; it shows at the last
abbrev pub spans_have_room : SpansBefore → ℕ → SpanKind → Bool
spans_have_room b pages kind =
    not (b.left == 1)
    || (nat_le (PAGE * pages_with b kind pages) MOST_BLOCK_BYTES && nat_le (PAGE * device_pages_with b kind pages) MOST_DEVICE_BYTES)

unfoldable pub is_kind : Header → SpansBefore → ℕ → ℕ → SpanKind → Bool
is_kind h b pages n kind = suits_tau0 h.tau0 n kind && spans_have_room b pages kind

abbrev pub kind_byte : Form SpanKind
kind_byte = coded 1 kind_in kind_bytes at.Kind

-- the name of a part that has one, and zeros of one that hasn't
unfoldable pub title : ℕ → Form (Option (List ℕ))
title code = either (code == 1) (present name) (absent_value 64 at.Name)

unfoldable pub span : Header → SpansBefore → Form SpanPart
span h b =
    field (λ s. s.address) (only (is_address b.end) at.Place (number w64)) (λ address.
    field (λ s. s.pages) (only (is_span_size address) at.Pages (number w32)) (λ pages.
    field (λ s. s.number) (only (is_new h b) at.Number (number w16)) (λ n.
    field (λ s. s.kind) (only (is_kind h b pages n) at.Kind kind_byte) (λ kind.
    field (λ s. part_code s.tag.part) (only (is_part kind) at.Part byte) (λ code.
    field (λ s. s.tag.owner) name (λ owner.
    field (λ s. part_name s.tag.part) (title code) (λ called.
    gap 16 at.Zero (
    done (record { address = address; pages = pages; number = n; kind = kind; tag = record { owner = owner; part = part_of code called } })))))))))

-- ---- scheduling groups

abbrev pub nothing_left : {A O : Type 0} → O → ℕ → A → ℕ
nothing_left o b x = b

unfoldable pub group : Header → ℕ → Form GroupPart
group h b =
    field (λ g. g.cpu) (only (λ c. nat_lt c h.cpus) at.Cpu byte) (λ cpu.
    field (λ g. g.first) (only (λ n. nat_lt n h.subjects) at.First byte) (λ first.
    gap 6 at.Zero (
    done (record { cpu = cpu; first = first }))))

-- ---- subjects

-- where a subject is the first member of a group, the group is this one
abbrev pub is_first_here : List GroupPart → ℕ → ℕ → Bool
is_first_here groups index n = list_all (λ g. not (g.1.first == index) || g.0 == n) (enumerate_from 0 groups)

-- a group on its CPU, and the one whose first member it is
unfoldable pub is_group_of : Outline → ℕ → ℕ → ℕ → Bool
is_group_of o index cpu n = is_group_on o.groups cpu n && is_first_here o.groups index n

-- the number of a span that is this part of its owner, with so many pages
unfoldable pub is_kernel_span : List SpanPart → ℕ → ℕ → ℕ → Bool
is_kernel_span spans code pages n = list_any (λ s. (s.number == n) && (part_code s.tag.part == code) && nat_le pages s.pages) spans

-- four levels of tables, write-back (Intel SDM volume 3, extended-page-table pointer)
abbrev pub is_eptp : ℕ → Bool
is_eptp n = (n % PAGE == 0x1E) && nat_lt n PHYSICAL_END

unfoldable pub event : Header → ℕ → Form (Option EventPart)
event h b = coded 4 (event_in h.subjects) event_bytes at.Event

abbrev pub events : Header → Form (List (Option EventPart))
events h = items (nothing_left h) (event h) 0 MOST_CALLS

abbrev pub next_index : {A O : Type 0} → O → ℕ → A → ℕ
next_index o index x = next_byte index

unfoldable pub subject : Outline → ℕ → Form SubjectPart
subject o index =
    field (λ s. s.cpu) (only (λ c. nat_lt c o.header.cpus) at.Cpu byte) (λ cpu.
    field (λ s. s.group) (only (is_group_of o index cpu) at.Group byte) (λ in_group.
    field (λ s. s.msrs) (only (λ n. nat_le n MOST_MSRS) at.Msrs byte) (λ msrs.
    gap 1 at.Zero (
    field (λ s. s.state) (only (is_kernel_span o.spans (part_code State) 1) at.Span (number w16)) (λ state.
    field (λ s. s.iobm) (only (is_kernel_span o.spans (part_code Iobm) 2) at.Span (number w16)) (λ iobm.
    field (λ s. s.msrbm) (only (is_kernel_span o.spans (part_code Msrbm) 1) at.Span (number w16)) (λ msrbm.
    field (λ s. s.area) (only (is_kernel_span o.spans (part_code Msrs) 1) at.Span (number w16)) (λ area.
    gap 4 at.Zero (
    field (λ s. s.eptp) (only is_eptp at.Eptp (number w64)) (λ eptp.
    field (λ s. s.name) name (λ called.
    gap 8 at.Zero (
    field (λ s. s.calls) (events o.header) (λ calls.
    field (λ s. s.traps) (events o.header) (λ traps.
    done (record { cpu = cpu; group = in_group; msrs = msrs; state = state; iobm = iobm; msrbm = msrbm; area = area; eptp = eptp; name = called; calls = calls; traps = traps })))))))))))))))

-- ---- major frames: the minor frames of each CPU have the major's ticks

-- the minor frame has ticks, and the last one makes the major's
abbrev pub is_ticks : FramesBefore → ℕ → Bool
is_ticks b n = nat_lt 0 n && (not (b.left == 1) || (b.sum + n == b.total))

abbrev pub add_ticks : Outline → FramesBefore → Minor → FramesBefore
add_ticks o b f = record { cpu = b.cpu; total = b.total; sum = sum32 b.sum f.ticks; left = b.left - 1 }

unfoldable pub minor_frame_form : Outline → FramesBefore → Form Minor
minor_frame_form o b =
    field (λ f. f.group) (only (is_group_on o.groups b.cpu) at.Group byte) (λ in_group.
    gap 3 at.Zero (
    field (λ f. f.ticks) (only (is_ticks b) at.Ticks (number w32)) (λ ticks.
    done (record { group = in_group; ticks = ticks }))))

abbrev pub no_frames_before : CpuTicks → ℕ → FramesBefore
no_frames_before c n = record { cpu = c.cpu; total = c.total; sum = 0; left = n }

-- the minor frames of a CPU
unfoldable pub frames : Outline → CpuTicks → Form (List Minor)
frames o c =
    field length (only (is_between_inclusive 1 MOST_MINOR_FRAMES) at.Count (number w16)) (λ n.
    gap 2 at.Zero (
    items (add_ticks o) (minor_frame_form o) (no_frames_before c n) n))

abbrev pub next_cpu : Outline → CpuTicks → List Minor → CpuTicks
next_cpu o c fs = record { cpu = next_byte c.cpu; total = c.total }

unfoldable pub major : Outline → ℕ → Form Major
major o b =
    field (λ m. m.ticks) (only (is_between_inclusive 1 MOST_TICKS) at.Ticks (number w32)) (λ ticks.
    field (λ m. m.cpus) (items (next_cpu o) (frames o) (record { cpu = 0; total = ticks }) o.header.cpus) (λ cpus.
    done (record { ticks = ticks; cpus = cpus })))

-- ---- devices: their names differ, and so do those of a device's memories and of its IRQs

abbrev pub is_listed_name : List (List ℕ) → List ℕ → Bool
is_listed_name names n = list_any (λ m. bytes_eq m n) names

unfoldable pub range : Header → ℕ → Form PortSpan
range h b =
    field (λ r. r.start) (number w16) (λ start.
    field (λ r. r.end) (only (λ e. nat_le start e) at.Port (number w16)) (λ end.
    done (record { start = start; end = end })))

-- the name of a device's memory, by the number of its span
abbrev pub device_name : SpanPart → Option (List ℕ)
device_name s = if is_device s.kind then part_name s.tag.part else None

unfoldable pub window_name : List SpanPart → ℕ → Option (List ℕ)
window_name spans n = option_and_then device_name (find (λ s. s.number == n) spans)

unfoldable pub is_window : List SpanPart → List (List ℕ) → ℕ → Bool
is_window spans names n = option_map_or (λ t. not (is_listed_name names t)) (window_name spans n) false

unfoldable pub after_window : Outline → List (List ℕ) → WindowPart → List (List ℕ)
after_window o names w = names ++ option_to_list (window_name o.spans w.span)

unfoldable pub window_form : Outline → List (List ℕ) → Form WindowPart
window_form o names =
    field (λ w. w.span) (only (is_window o.spans names) at.Span (number w16)) (λ n.
    done (record { span = n }))

abbrev pub after_irq : Header → List (List ℕ) → IrqPart → List (List ℕ)
after_irq h names q = names ++ q.name ∷ []

unfoldable pub irq : Header → List (List ℕ) → Form IrqPart
irq h names =
    field (λ q. q.name) (only (λ n. not (is_listed_name names n)) at.Name name) (λ called.
    field (λ q. subject_code q.target) byte (λ to.
    field (λ q. irq_vector_code q.target) (only (is_target_code h.subjects to) at.Irq byte) (λ vector.
    gap 2 at.Zero (
    done (record { name = called; target = target_of to vector })))))

abbrev pub after_device : Outline → List (List ℕ) → DevicePart → List (List ℕ)
after_device o names d = names ++ d.name ∷ []

unfoldable pub device : Outline → List (List ℕ) → Form DevicePart
device o names =
    field (λ d. d.name) (only (λ n. not (is_listed_name names n)) at.Name name) (λ called.
    field (λ d. length d.ports) (only (λ n. nat_le n MOST_PER_DEVICE) at.Count byte) (λ ports.
    field (λ d. length d.windows) (only (λ n. nat_le n MOST_PER_DEVICE) at.Count byte) (λ windows.
    field (λ d. length d.irqs) (only (λ n. nat_le n MOST_PER_DEVICE) at.Count byte) (λ irqs.
    gap 1 at.Zero (
    field (λ d. d.ports) (items (nothing_left o.header) (range o.header) 0 ports) (λ ps.
    field (λ d. d.windows) (items (after_window o) (window_form o) [] windows) (λ ws.
    field (λ d. d.irqs) (items (after_irq o.header) (irq o.header) [] irqs) (λ qs.
    done (record { name = called; ports = ps; windows = ws; irqs = qs })))))))))

-- ---- the whole

-- the bytes of a span; a device's memory has none in the image
unfoldable pub content : SpanPart → Form (List ℕ)
content s = fixed_bytes (if is_device s.kind then 0 else PAGE * s.pages)

abbrev pub outline : Header → List SpanPart → List GroupPart → Outline
outline h spans groups = record { header = h; spans = spans; groups = groups }

unfoldable pub image : Form Image
image =
    field (λ i. i.header) header (λ h.
    field (λ i. i.spans) (items (after h) (span h) (no_spans_before h) h.spans) (λ spans.
    field (λ i. i.plan.groups) (items (nothing_left h) (group h) 0 h.groups) (λ groups.
    field (λ i. i.subjects) (items (next_index (outline h spans groups)) (subject (outline h spans groups)) 0 h.subjects) (λ subjects.
    field (λ i. i.plan.majors) (items (nothing_left (outline h spans groups)) (major (outline h spans groups)) 0 h.majors) (λ majors.
    field (λ i. i.devices) (items (after_device (outline h spans groups)) (device (outline h spans groups)) [] h.devices) (λ devices.
    field (λ i. i.contents) (each content spans) (λ contents.
    done (record { header = h; spans = spans; subjects = subjects; plan = record { groups = groups; majors = majors }; devices = devices; contents = contents }))))))))
