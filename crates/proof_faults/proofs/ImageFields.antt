-- A fault of an image is that of the bytes up to the end of its field: each field of the form has no more bytes than there is room for.
use Rattle.std.proofs.Common.{ℕ, Bool, List, refl, arith}
use Rattle.std.specs.Int.{w16}
use Rattle.std.proofs.lemmas.Bool.{leb-true}
use Rattle.binary_form.specs.declared.fault.Field.TheVariants as at
use Rattle.binary_form.specs.Form.{coded, only}
use Rattle.binary_form.specs.Name.{name}
use Rattle.image_pack.specs.Codes.{event_bytes, event_in, kind_bytes, kind_in, mark_bytes, mark_in}
use Rattle.image_pack.specs.Image.{add_ticks, after, after_device, after_irq, after_window, content, counts, device, event, events, frames, group, header, image, irq, kind_byte, major, mark, minor_frame_form, next_cpu, next_index, no_frames_before, no_spans_before, nothing_left, outline, range, span, subject, tau0_at, tau0_span, title, window_form}
use Rattle.image_pack.specs.declared.outline.Header.{Header}
use Rattle.image_pack.specs.declared.outline.Outline.{Outline}
use Rattle.image_pack.specs.declared.parts.SpanKind.{SpanKind}
use Rattle.image_pack.specs.declared.parts.SpanPart.{SpanPart}
use Rattle.image_pack.specs.declared.reading.majors.CpuTicks.{CpuTicks}
use Rattle.image_pack.specs.declared.reading.majors.FramesBefore.{FramesBefore}
use Rattle.image_pack.specs.declared.reading.spans.SpansBefore.{SpansBefore}
use Rattle.muen_num.specs.declared.limits.TheConstants.{MOST_CALLS}
use Rattle.proof_faults.proofs.Fields.{absent_local, byte_local, bytes_local, coded_field, done_local, each_local, either_local, field_local, items_local, local_field, number_local, only_field, present_local}
use Rattle.proof_faults.proofs.Rooms.{Local, a_name, eight, four, new_name, one, two, zeros}
use Rattle.proof_faults.specs.Room.{room_of}

-- ---- the header

mark_local : Local mark
mark_local = local_field room_of 8 at.Magic mark (coded_field 8 mark_in mark_bytes at.Magic) (omega arith) (leb-true 8 (room_of at.Magic) refl)

tau0_local : (has : Bool) (spans : ℕ) → Local (tau0_at has spans)
unfolding tau0_at
tau0_local has spans =
    either_local room_of has _ _
    (present_local room_of (tau0_span spans) (field_local room_of _ _ _ (two _ at.Span refl) (λ n. zeros 4 _ refl refl (done_local room_of _))))
    (absent_local room_of 6 at.Zero (omega arith) (leb-true 6 (room_of at.Zero) refl))

counts_local : (has : Bool) → Local (counts has)
unfolding counts
counts_local has =
    field_local room_of _ _ _ (one _ at.Count refl) (λ cpus.
    field_local room_of _ _ _ (one _ at.Count refl) (λ subjects.
    field_local room_of _ _ _ (one _ at.Count refl) (λ groups.
    field_local room_of _ _ _ (one _ at.Count refl) (λ majors.
    field_local room_of _ _ _ (one _ at.Count refl) (λ devices.
    zeros 3 _ refl refl (
    field_local room_of _ _ _ (two _ at.Count refl) (λ spans.
    field_local room_of _ _ _ (tau0_local has spans) (λ tau0.
    done_local room_of _))))))))

header_local : Local header
unfolding header
header_local = field_local room_of _ _ _ mark_local counts_local

-- ---- spans

title_local : (code : ℕ) → Local (title code)
unfolding title
title_local code = either_local room_of _ _ _ (present_local room_of name a_name) (absent_local room_of 64 at.Name (omega arith) (leb-true 64 (room_of at.Name) refl))

kind_local : (test : SpanKind → Bool) → Local (only test at.Kind kind_byte)
kind_local test = local_field room_of 1 at.Kind (only test at.Kind kind_byte) (only_field 1 test at.Kind kind_byte (coded_field 1 kind_in kind_bytes at.Kind)) (omega arith) (leb-true 1 (room_of at.Kind) refl)

span_local : (h : Header) (b : SpansBefore) → Local (span h b)
unfolding span
span_local h b =
    field_local room_of _ _ _ (eight _ at.Place refl) (λ address.
    field_local room_of _ _ _ (four _ at.Pages refl) (λ pages.
    field_local room_of _ _ _ (two _ at.Number refl) (λ n.
    field_local room_of _ _ _ (kind_local _) (λ kind.
    field_local room_of _ _ _ (one _ at.Part refl) (λ code.
    field_local room_of _ _ _ a_name (λ owner.
    field_local room_of _ _ _ (title_local code) (λ called.
    zeros 16 _ refl refl (done_local room_of _))))))))

-- ---- groups and subjects

group_local : (h : Header) (b : ℕ) → Local (group h b)
unfolding group
group_local h b =
    field_local room_of _ _ _ (one _ at.Cpu refl) (λ cpu.
    field_local room_of _ _ _ (one _ at.First refl) (λ first.
    zeros 6 _ refl refl (done_local room_of _)))

event_local : (h : Header) (b : ℕ) → Local (event h b)
unfolding event
event_local h b = local_field room_of 4 at.Event (coded 4 (event_in h.subjects) event_bytes at.Event) (coded_field 4 (event_in h.subjects) event_bytes at.Event) (omega arith) (leb-true 4 (room_of at.Event) refl)

events_local : (h : Header) → Local (events h)
events_local h = items_local room_of (nothing_left h) (event h) 0 MOST_CALLS (event_local h)

subject_local : (o : Outline) (index : ℕ) → Local (subject o index)
unfolding subject
subject_local o index =
    field_local room_of _ _ _ (one _ at.Cpu refl) (λ cpu.
    field_local room_of _ _ _ (one _ at.Group refl) (λ in_group.
    field_local room_of _ _ _ (one _ at.Msrs refl) (λ msrs.
    zeros 1 _ refl refl (
    field_local room_of _ _ _ (two _ at.Span refl) (λ state.
    field_local room_of _ _ _ (two _ at.Span refl) (λ iobm.
    field_local room_of _ _ _ (two _ at.Span refl) (λ msrbm.
    field_local room_of _ _ _ (two _ at.Span refl) (λ area.
    zeros 4 _ refl refl (
    field_local room_of _ _ _ (eight _ at.Eptp refl) (λ eptp.
    field_local room_of _ _ _ a_name (λ called.
    zeros 8 _ refl refl (
    field_local room_of _ _ _ (events_local o.header) (λ calls.
    field_local room_of _ _ _ (events_local o.header) (λ traps.
    done_local room_of _))))))))))))))

-- ---- the plan

minor_local : (o : Outline) (b : FramesBefore) → Local (minor_frame_form o b)
unfolding minor_frame_form
minor_local o b =
    field_local room_of _ _ _ (one _ at.Group refl) (λ in_group.
    zeros 3 _ refl refl (
    field_local room_of _ _ _ (four _ at.Ticks refl) (λ ticks.
    done_local room_of _)))

frames_local : (o : Outline) (c : CpuTicks) → Local (frames o c)
unfolding frames
frames_local o c =
    field_local room_of _ _ _ (two _ at.Count refl) (λ n.
    zeros 2 _ refl refl (
    items_local room_of (add_ticks o) (minor_frame_form o) (no_frames_before c n) n (minor_local o)))

major_local : (o : Outline) (b : ℕ) → Local (major o b)
unfolding major
major_local o b =
    field_local room_of _ _ _ (four _ at.Ticks refl) (λ ticks.
    field_local room_of _ _ _ (items_local room_of (next_cpu o) (frames o) (record { cpu = 0; total = ticks }) o.header.cpus (frames_local o)) (λ cpus.
    done_local room_of _))

-- ---- devices

range_local : (h : Header) (b : ℕ) → Local (range h b)
unfolding range
range_local h b =
    field_local room_of _ _ _ (number_local room_of w16) (λ start.
    field_local room_of _ _ _ (two _ at.Port refl) (λ end.
    done_local room_of _))

window_local : (o : Outline) (names : List (List ℕ)) → Local (window_form o names)
unfolding window_form
window_local o names = field_local room_of _ _ _ (two _ at.Span refl) (λ n. done_local room_of _)

irq_local : (h : Header) (names : List (List ℕ)) → Local (irq h names)
unfolding irq
irq_local h names =
    field_local room_of _ _ _ (new_name _) (λ called.
    field_local room_of _ _ _ (byte_local room_of at.Irq (leb-true 1 (room_of at.Irq) refl)) (λ to.
    field_local room_of _ _ _ (one _ at.Irq refl) (λ vector.
    zeros 2 _ refl refl (done_local room_of _))))

device_local : (o : Outline) (names : List (List ℕ)) → Local (device o names)
unfolding device
device_local o names =
    field_local room_of _ _ _ (new_name _) (λ called.
    field_local room_of _ _ _ (one _ at.Count refl) (λ ports.
    field_local room_of _ _ _ (one _ at.Count refl) (λ windows.
    field_local room_of _ _ _ (one _ at.Count refl) (λ irqs.
    zeros 1 _ refl refl (
    field_local room_of _ _ _ (items_local room_of (nothing_left o.header) (range o.header) 0 ports (range_local o.header)) (λ ps.
    field_local room_of _ _ _ (items_local room_of (after_window o) (window_form o) _ windows (window_local o)) (λ ws.
    field_local room_of _ _ _ (items_local room_of (after_irq o.header) (irq o.header) _ irqs (irq_local o.header)) (λ qs.
    done_local room_of _))))))))

-- ---- the whole

content_local : (s : SpanPart) → Local (content s)
unfolding content
content_local s = bytes_local room_of _

pub image_local : Local image
unfolding image
image_local =
    field_local room_of _ _ _ header_local (λ h.
    field_local room_of _ _ _ (items_local room_of (after h) (span h) (no_spans_before h) h.spans (span_local h)) (λ spans.
    field_local room_of _ _ _ (items_local room_of (nothing_left h) (group h) 0 h.groups (group_local h)) (λ groups.
    field_local room_of _ _ _ (items_local room_of (next_index (outline h spans groups)) (subject (outline h spans groups)) 0 h.subjects (subject_local (outline h spans groups))) (λ subjects.
    field_local room_of _ _ _ (items_local room_of (nothing_left (outline h spans groups)) (major (outline h spans groups)) 0 h.majors (major_local (outline h spans groups))) (λ majors.
    field_local room_of _ _ _ (items_local room_of (after_device (outline h spans groups)) (device (outline h spans groups)) _ h.devices (device_local (outline h spans groups))) (λ devices.
    field_local room_of _ _ _ (each_local room_of content spans content_local) (λ contents.
    done_local room_of _)))))))
