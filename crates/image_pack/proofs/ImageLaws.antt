-- The laws of the form of an image.
use Rattle.std.proofs.Common.{ℕ, Bool, List}
use Rattle.std.specs.Prelude.{is_some}
use Rattle.std.specs.Int.{w16, w32, w64}
use Rattle.binary_form.specs.Form.{field, only, gap, byte, number}
use Rattle.binary_form.proofs.Leaves.{Laws, number_laws, byte_laws, wide16, wide32, wide64}
use Rattle.binary_form.proofs.Forms.{Knows, laws, field_laws, field_laws_within, only_laws, gap_laws, done_laws, knows_field, knows_field_within, knows_gap, knows_done, items_laws, each_laws, knows_count}
use Rattle.binary_form.proofs.NameLaws.{name_laws}
use Rattle.image_pack.specs.declared.outline.Header.{Header}
use Rattle.image_pack.specs.declared.outline.Outline.{Outline}
use Rattle.image_pack.specs.declared.reading.spans.SpansBefore.{SpansBefore}
use Rattle.image_pack.specs.declared.reading.majors.CpuTicks.{CpuTicks}
use Rattle.image_pack.specs.declared.reading.majors.FramesBefore.{FramesBefore}
use Rattle.image_pack.specs.declared.parts.SpanPart.{SpanPart}
use Rattle.image_pack.specs.declared.parts.Image.{Image}
use Rattle.image_pack.specs.Image.{tau0_at, counts, header, title, span, group, subject, minor_frame_form, frames, major, range, window_form, irq, device, content, image}
use Rattle.image_pack.proofs.CodeLaws.{mark_laws, has_tau0, kind_laws, part_name_back, part_code_back, event_laws, subject_back, irq_vector_back}

-- ---- the header

pub tau0_laws : (has : Bool) (spans : ℕ) → Laws (tau0_at has spans)
unfolding tau0_at
tau0_laws has spans = search laws depth 40

counts_laws : (has : Bool) → Laws (counts has)
unfolding counts
counts_laws has = search (laws, tau0_laws) depth 40

knows_version : (has : Bool) → Knows (λ (h : Header). is_some h.tau0) has (counts has)
unfolding counts
knows_version has =
    knows_field _ _ _ _ _ (λ cpus. knows_field _ _ _ _ _ (λ subjects. knows_field _ _ _ _ _ (λ groups. knows_field _ _ _ _ _ (λ majors. knows_field _ _ _ _ _ (λ devices.
    knows_gap _ _ _ _ _ (knows_field _ _ _ _ _ (λ spans. knows_field_within _ _ _ _ _ (λ tau0 fits. knows_done _ _ _ (has_tau0 has spans tau0 fits)))))))))

pub header_laws : Laws header
unfolding header
header_laws = field_laws _ _ _ mark_laws knows_version counts_laws

-- ---- spans

title_laws : (code : ℕ) → Laws (title code)
unfolding title
title_laws code = search (laws, name_laws) depth 40

pub span_laws : (h : Header) (b : SpansBefore) → Laws (span h b)
unfolding span only
span_laws h b =
    field_laws _ _ _ (only_laws _ _ _ (number_laws w64 wide64)) (λ address. search laws depth 60) (λ address.
    field_laws _ _ _ (only_laws _ _ _ (number_laws w32 wide32)) (λ pages. search laws depth 60) (λ pages.
    field_laws _ _ _ (only_laws _ _ _ (number_laws w16 wide16)) (λ n. search laws depth 60) (λ n.
    field_laws _ _ _ (only_laws _ _ _ kind_laws) (λ kind. search laws depth 60) (λ kind.
    field_laws_within _ _ _ (only_laws _ _ _ byte_laws)
    (λ code fits. knows_field _ _ _ _ _ (λ owner. knows_field_within _ _ _ _ _ (λ called fit. knows_gap _ _ _ _ _ (knows_done _ _ _ (part_code_back kind code called fits.1 fit)))))
    (λ code.
    field_laws _ _ _ name_laws (λ owner. search laws depth 60) (λ owner.
    field_laws _ _ _ (title_laws code) (λ called. knows_gap _ _ _ _ _ (knows_done _ _ _ (part_name_back code called))) (λ called.
    gap_laws _ _ _ (done_laws _))))))))

-- ---- groups and subjects

pub group_laws : (h : Header) (b : ℕ) → Laws (group h b)
unfolding group
group_laws h b = search laws depth 40

pub subject_laws : (o : Outline) (index : ℕ) → Laws (subject o index)
unfolding subject
subject_laws o index =
    field_laws _ _ _ (only_laws _ _ _ byte_laws) (λ cpu. search laws depth 60) (λ cpu.
    field_laws _ _ _ (only_laws _ _ _ byte_laws) (λ in_group. search laws depth 60) (λ in_group.
    field_laws _ _ _ (only_laws _ _ _ byte_laws) (λ msrs. search laws depth 60) (λ msrs.
    gap_laws _ _ _ (
    field_laws _ _ _ (only_laws _ _ _ (number_laws w16 wide16)) (λ state. search laws depth 60) (λ state.
    field_laws _ _ _ (only_laws _ _ _ (number_laws w16 wide16)) (λ iobm. search laws depth 60) (λ iobm.
    field_laws _ _ _ (only_laws _ _ _ (number_laws w16 wide16)) (λ msrbm. search laws depth 60) (λ msrbm.
    field_laws _ _ _ (only_laws _ _ _ (number_laws w16 wide16)) (λ area. search laws depth 60) (λ area.
    gap_laws _ _ _ (
    field_laws _ _ _ (only_laws _ _ _ (number_laws w64 wide64)) (λ eptp. search laws depth 60) (λ eptp.
    field_laws _ _ _ name_laws (λ called. search laws depth 60) (λ called.
    gap_laws _ _ _ (
    field_laws _ _ _ (items_laws _ _ _ _ (event_laws o.header)) (λ calls. search laws depth 60) (λ calls.
    field_laws _ _ _ (items_laws _ _ _ _ (event_laws o.header)) (λ traps. search laws depth 60) (λ traps.
    done_laws _))))))))))))))

-- ---- the plan

minor_laws : (o : Outline) (b : FramesBefore) → Laws (minor_frame_form o b)
unfolding minor_frame_form
minor_laws o b = search laws depth 40

frames_laws : (o : Outline) (c : CpuTicks) → Laws (frames o c)
unfolding frames
frames_laws o c = search (laws, items_laws, minor_laws) depth 40

pub major_laws : (o : Outline) (b : ℕ) → Laws (major o b)
unfolding major
major_laws o b = search (laws, items_laws, frames_laws) depth 40

-- ---- devices

range_laws : (h : Header) (b : ℕ) → Laws (range h b)
unfolding range
range_laws h b = search laws depth 40

window_laws : (o : Outline) (names : List (List ℕ)) → Laws (window_form o names)
unfolding window_form
window_laws o names = search laws depth 40

irq_laws : (h : Header) (names : List (List ℕ)) → Laws (irq h names)
unfolding irq only
irq_laws h names =
    field_laws _ _ _ (only_laws _ _ _ name_laws) (λ called. search laws depth 60) (λ called.
    field_laws _ _ _ byte_laws (λ to. knows_field _ _ _ _ _ (λ vector. knows_gap _ _ _ _ _ (knows_done _ _ _ (subject_back to vector)))) (λ to.
    field_laws_within _ _ _ (only_laws _ _ _ byte_laws) (λ vector fits. knows_gap _ _ _ _ _ (knows_done _ _ _ (irq_vector_back h.subjects to vector fits.1))) (λ vector.
    gap_laws _ _ _ (done_laws _))))

pub device_laws : (o : Outline) (names : List (List ℕ)) → Laws (device o names)
unfolding device
device_laws o names =
    field_laws _ _ _ (only_laws _ _ _ name_laws) (λ called. search laws depth 60) (λ called.
    field_laws _ _ _ (only_laws _ _ _ byte_laws) (λ ports. knows_field _ _ _ _ _ (λ w. knows_field _ _ _ _ _ (λ q. knows_gap _ _ _ _ _ (knows_count _ _ _ _ _ _)))) (λ ports.
    field_laws _ _ _ (only_laws _ _ _ byte_laws) (λ windows. knows_field _ _ _ _ _ (λ q. knows_gap _ _ _ _ _ (knows_field _ _ _ _ _ (λ ps. knows_count _ _ _ _ _ _)))) (λ windows.
    field_laws _ _ _ (only_laws _ _ _ byte_laws) (λ irqs. knows_gap _ _ _ _ _ (knows_field _ _ _ _ _ (λ ps. knows_field _ _ _ _ _ (λ ws. knows_count _ _ _ _ _ _)))) (λ irqs.
    gap_laws _ _ _ (
    field_laws _ _ _ (items_laws _ _ _ _ (range_laws o.header)) (λ ps. search laws depth 60) (λ ps.
    field_laws _ _ _ (items_laws _ _ _ _ (window_laws o)) (λ ws. search laws depth 60) (λ ws.
    field_laws _ _ _ (items_laws _ _ _ _ (irq_laws o.header)) (λ qs. search laws depth 60) (λ qs.
    done_laws _))))))))

-- ---- the whole

content_laws : (s : SpanPart) → Laws (content s)
unfolding content
content_laws s = search laws depth 40

pub image_laws : Laws image
unfolding image
image_laws = search (laws, items_laws, each_laws, header_laws, span_laws, group_laws, subject_laws, major_laws, device_laws, content_laws) depth 40

-- ---- counts have room in their fields

pub few_subjects : (i : Image) → image.fits i → byte.fits i.header.subjects
unfolding image header counts field only gap
few_subjects i h = h.0.1.1.0.0

pub few_groups : (i : Image) → image.fits i → byte.fits i.header.groups
unfolding image header counts field only gap
few_groups i h = h.0.1.1.1.0.0

pub few_majors : (i : Image) → image.fits i → byte.fits i.header.majors
unfolding image header counts field only gap
few_majors i h = h.0.1.1.1.1.0.0

pub few_devices : (i : Image) → image.fits i → byte.fits i.header.devices
unfolding image header counts field only gap
few_devices i h = h.0.1.1.1.1.1.0.0

pub few_spans : (i : Image) → image.fits i → (number w16).fits i.header.spans
unfolding image header counts field only gap
few_spans i h = h.0.1.1.1.1.1.1.0.0
