-- The rows of an image are spelled in bytes, in no more than their sizes.
use Rattle.std.proofs.Common.{◌≡◌, refl, ℕ, ◌+◌, ◌*◌, ◌<◌, ◌≤◌, Bool, true, false, [], ◌∷◌, List, Option, Some, None, arith}
use Rattle.std.specs.Prelude.{codes}
use Rattle.std.specs.Int.{w16, w32, w64}
use Rattle.std.proofs.lemmas.Bool.{leb-true}
use Rattle.muen_num.specs.declared.limits.TheConstants.{MOST_CALLS, MOST_CPUS, MOST_MINOR_FRAMES, MOST_PER_DEVICE}
use Rattle.muen_num.specs.declared.mode.EventMode.{EventMode}
use Rattle.muen_num.specs.declared.mode.EventMode.TheVariants.{Asap, Async, Own as OwnMode, Switch}
use Rattle.binary_form.specs.declared.fault.Field.TheVariants as at
use Rattle.binary_form.specs.Form.{IsBytes, coded}
use Rattle.binary_form.specs.Name.{name}
use Rattle.binary_form.proofs.Leaves.{wide16, wide32, wide64}
use Rattle.binary_form.proofs.Sizes.{IsSized, absent_sized, byte_sized, coded_sized, condition, done_sized, each_low, either_sized, field_sized, gap_sized, items_sized, name_sized, no_bytes, number_sized, one_more, only_sized, present_sized, rows}
use Rattle.image_pack.specs.Codes.{event_bytes, event_in, kind_bytes, kind_code, kind_in, mark_bytes, mark_in, mode_code, vector_code}
use Rattle.image_pack.specs.Image.{add_ticks, after_irq, after_window, counts, device, event, events, frames, group, header, irq, kind_byte, major, mark, minor_frame_form, next_cpu, no_frames_before, nothing_left, range, span, subject, tau0_at, title, window_form}
use Rattle.image_pack.specs.ImageConditions.{IsVector}
use Rattle.image_pack.specs.Sizes.{device_size, frames_size, group_size, header_size, irq_size, major_size, minor_size, range_size, span_size, subject_size, window_size}
use Rattle.image_pack.specs.declared.outline.Header.{Header}
use Rattle.image_pack.specs.declared.outline.Outline.{Outline}
use Rattle.image_pack.specs.declared.parts.EventPart.{EventPart}
use Rattle.image_pack.specs.declared.parts.SpanKind.{SpanKind}
use Rattle.image_pack.specs.declared.parts.SpanKind.TheVariants.{Own, Channel, Provided, Kernel, Device}
use Rattle.image_pack.specs.declared.reading.majors.CpuTicks.{CpuTicks}
use Rattle.image_pack.specs.declared.reading.majors.FramesBefore.{FramesBefore}
use Rattle.image_pack.specs.declared.reading.spans.SpansBefore.{SpansBefore}
use Rattle.image_pack.proofs.CodeLaws.{event_is_code, kind_is_code, mark_is_code}
use Rattle.image_pack.proofs.FramesKeep.{high_end}
use Rattle.image_pack.proofs.SubjectsKeep.{one_event}

-- ---- the header

mark_low : (has : Bool) → IsBytes (mark_bytes has)
unfolding mark_bytes
mark_low true = each_low (codes "MUENIMG2") refl
mark_low false = each_low (codes "MUENIMG1") refl

mark_sized : IsSized 8 mark
mark_sized = coded_sized 8 mark_in mark_bytes at.Magic mark_is_code (λ has fits. mark_low has)

tau0_sized : (has : Bool) (spans : ℕ) → IsSized 6 (tau0_at has spans)
unfolding tau0_at
tau0_sized has spans =
    either_sized 6 _ _ _ (present_sized 6 _ (field_sized 2 4 _ _ _ (only_sized 2 _ _ _ (number_sized w16 wide16)) (λ n fits. gap_sized 4 0 _ _ (done_sized _)))) (absent_sized 6 _)

counts_sized : (has : Bool) → IsSized 16 (counts has)
unfolding counts
counts_sized has =
    field_sized 1 15 _ _ _ (only_sized 1 _ _ _ byte_sized) (λ cpus a.
    field_sized 1 14 _ _ _ (only_sized 1 _ _ _ byte_sized) (λ subjects b.
    field_sized 1 13 _ _ _ (only_sized 1 _ _ _ byte_sized) (λ groups c.
    field_sized 1 12 _ _ _ (only_sized 1 _ _ _ byte_sized) (λ majors d.
    field_sized 1 11 _ _ _ (only_sized 1 _ _ _ byte_sized) (λ devices e.
    gap_sized 3 8 _ _ (
    field_sized 2 6 _ _ _ (only_sized 2 _ _ _ (number_sized w16 wide16)) (λ spans f.
    field_sized 6 0 _ _ _ (tau0_sized has spans) (λ tau0 g.
    done_sized _))))))))

pub header_sized : IsSized header_size header
unfolding header
header_sized = field_sized 8 16 _ _ _ mark_sized (λ has fits. counts_sized has)

-- ---- spans

kind_low : (kind : SpanKind) → kind_code kind < 256
kind_low Own = omega arith
kind_low Channel = omega arith
kind_low Provided = omega arith
kind_low Kernel = omega arith
kind_low Device = omega arith

kind_sized : IsSized 1 kind_byte
kind_sized = coded_sized 1 kind_in kind_bytes at.Kind kind_is_code (λ kind fits. one_more (kind_code kind) [] (kind_low kind) no_bytes)

title_sized : (code : ℕ) → IsSized 64 (title code)
unfolding title
title_sized code = either_sized 64 _ _ _ (present_sized 64 name name_sized) (absent_sized 64 _)

pub span_sized : (h : Header) (b : SpansBefore) → IsSized span_size (span h b)
unfolding span
span_sized h b =
    field_sized 8 152 _ _ _ (only_sized 8 _ _ _ (number_sized w64 wide64)) (λ address a.
    field_sized 4 148 _ _ _ (only_sized 4 _ _ _ (number_sized w32 wide32)) (λ pages p.
    field_sized 2 146 _ _ _ (only_sized 2 _ _ _ (number_sized w16 wide16)) (λ n l.
    field_sized 1 145 _ _ _ (only_sized 1 _ _ _ kind_sized) (λ kind k.
    field_sized 1 144 _ _ _ (only_sized 1 _ _ _ byte_sized) (λ code c.
    field_sized 64 80 _ _ _ name_sized (λ owner o.
    field_sized 64 16 _ _ _ (title_sized code) (λ called t.
    gap_sized 16 0 _ _ (done_sized _))))))))

-- ---- groups and subjects

pub group_sized : (h : Header) (b : ℕ) → IsSized group_size (group h b)
unfolding group
group_sized h b =
    field_sized 1 7 _ _ _ (only_sized 1 _ _ _ byte_sized) (λ cpu c.
    field_sized 1 6 _ _ _ (only_sized 1 _ _ _ byte_sized) (λ first f.
    gap_sized 6 0 _ _ (done_sized _)))

mode_low : (mode : EventMode) → mode_code mode < 256
mode_low Asap = omega arith
mode_low Async = omega arith
mode_low OwnMode = omega arith
mode_low Switch = omega arith

vector_low : (mode : EventMode) (v : Option ℕ) → IsVector mode v → vector_code v < 256
vector_low mode None h = omega arith
vector_low mode (Some v) h = let last : v ≤ 255 = h.1 in omega (arith, last)

event_low : (h : Header) (b : ℕ) (o : Option EventPart) → h.subjects ≤ 32 → (event h b).fits o → IsBytes (event_bytes o)
event_low h b None few fits = each_low (0 ∷ 0 ∷ 0 ∷ 0 ∷ []) refl
event_low h b (Some e) few fits =
    let is = one_event h b (Some e) fits in
    let target : e.target < h.subjects = is.0 in
    one_more (mode_code e.mode) (e.target ∷ vector_code e.vector ∷ 0 ∷ []) (mode_low e.mode)
    (one_more e.target (vector_code e.vector ∷ 0 ∷ []) (omega (arith, target, few))
    (one_more (vector_code e.vector) (0 ∷ []) (vector_low e.mode e.vector is.1)
    (one_more 0 [] (omega arith) no_bytes)))

event_sized : (h : Header) (b : ℕ) → h.subjects ≤ 32 → IsSized 4 (event h b)
unfolding event coded
event_sized h b few = coded_sized 4 (event_in h.subjects) event_bytes at.Event (event_is_code h.subjects) (λ o fits. event_low h b o few fits)

events_sized : (h : Header) → h.subjects ≤ 32 → IsSized 256 (events h)
events_sized h few = items_sized (nothing_left h) (event h) 0 MOST_CALLS 4 (λ b. event_sized h b few)

pub subject_sized : (o : Outline) (index : ℕ) → o.header.subjects ≤ 32 → IsSized subject_size (subject o index)
unfolding subject
subject_sized o index few =
    field_sized 1 607 _ _ _ (only_sized 1 _ _ _ byte_sized) (λ cpu a.
    field_sized 1 606 _ _ _ (only_sized 1 _ _ _ byte_sized) (λ in_group b.
    field_sized 1 605 _ _ _ (only_sized 1 _ _ _ byte_sized) (λ msrs c.
    gap_sized 1 604 _ _ (
    field_sized 2 602 _ _ _ (only_sized 2 _ _ _ (number_sized w16 wide16)) (λ state d.
    field_sized 2 600 _ _ _ (only_sized 2 _ _ _ (number_sized w16 wide16)) (λ iobm e.
    field_sized 2 598 _ _ _ (only_sized 2 _ _ _ (number_sized w16 wide16)) (λ msrbm f.
    field_sized 2 596 _ _ _ (only_sized 2 _ _ _ (number_sized w16 wide16)) (λ area g.
    gap_sized 4 592 _ _ (
    field_sized 8 584 _ _ _ (only_sized 8 _ _ _ (number_sized w64 wide64)) (λ eptp i.
    field_sized 64 520 _ _ _ name_sized (λ called j.
    gap_sized 8 512 _ _ (
    field_sized 256 256 _ _ _ (events_sized o.header few) (λ calls k.
    field_sized 256 0 _ _ _ (events_sized o.header few) (λ traps l.
    done_sized _))))))))))))))

-- ---- major frames

minor_sized : (o : Outline) (b : FramesBefore) → IsSized minor_size (minor_frame_form o b)
unfolding minor_frame_form
minor_sized o b =
    field_sized 1 7 _ _ _ (only_sized 1 _ _ _ byte_sized) (λ in_group g.
    gap_sized 3 4 _ _ (
    field_sized 4 0 _ _ _ (only_sized 4 _ _ _ (number_sized w32 wide32)) (λ ticks t.
    done_sized _)))

frames_sized : (o : Outline) (c : CpuTicks) → IsSized frames_size (frames o c)
unfolding frames
frames_sized o c =
    field_sized 2 514 _ _ _ (only_sized 2 _ _ _ (number_sized w16 wide16)) (λ n fits.
    gap_sized 2 512 _ _
    (rows n MOST_MINOR_FRAMES minor_size _ (high_end 1 MOST_MINOR_FRAMES n (condition _ _ _ n fits))
    (items_sized (add_ticks o) (minor_frame_form o) (no_frames_before c n) n minor_size (minor_sized o))))

pub major_sized : (o : Outline) (b : ℕ) → o.header.cpus ≤ MOST_CPUS → IsSized major_size (major o b)
unfolding major
major_sized o b few =
    field_sized 4 4128 _ _ _ (only_sized 4 _ _ _ (number_sized w32 wide32)) (λ ticks t.
    field_sized 4128 0 _ _ _
    (rows o.header.cpus MOST_CPUS frames_size _ few (items_sized (next_cpu o) (frames o) (record { cpu = 0; total = ticks }) o.header.cpus frames_size (frames_sized o)))
    (λ cpus c. done_sized _))

-- ---- devices

range_sized : (h : Header) (b : ℕ) → IsSized range_size (range h b)
unfolding range
range_sized h b =
    field_sized 2 2 _ _ _ (number_sized w16 wide16) (λ start s.
    field_sized 2 0 _ _ _ (only_sized 2 _ _ _ (number_sized w16 wide16)) (λ end e.
    done_sized _))

window_sized : (o : Outline) (names : List (List ℕ)) → IsSized window_size (window_form o names)
unfolding window_form
window_sized o names = field_sized 2 0 _ _ _ (only_sized 2 _ _ _ (number_sized w16 wide16)) (λ n fits. done_sized _)

irq_sized : (h : Header) (names : List (List ℕ)) → IsSized irq_size (irq h names)
unfolding irq
irq_sized h names =
    field_sized 64 4 _ _ _ (only_sized 64 _ _ _ name_sized) (λ called c.
    field_sized 1 3 _ _ _ byte_sized (λ to t.
    field_sized 1 2 _ _ _ (only_sized 1 _ _ _ byte_sized) (λ vector v.
    gap_sized 2 0 _ _ (done_sized _))))

pub device_sized : (o : Outline) (names : List (List ℕ)) → IsSized device_size (device o names)
unfolding device
device_sized o names =
    field_sized 64 1188 _ _ _ (only_sized 64 _ _ _ name_sized) (λ called a.
    field_sized 1 1187 _ _ _ (only_sized 1 _ _ _ byte_sized) (λ ports b.
    field_sized 1 1186 _ _ _ (only_sized 1 _ _ _ byte_sized) (λ windows c.
    field_sized 1 1185 _ _ _ (only_sized 1 _ _ _ byte_sized) (λ irqs d.
    gap_sized 1 1184 _ _ (
    field_sized 64 1120 _ _ _
    (rows ports MOST_PER_DEVICE range_size _ (leb-true ports MOST_PER_DEVICE (condition _ _ _ ports b)) (items_sized (nothing_left o.header) (range o.header) 0 ports range_size (range_sized o.header))) (λ ps e.
    field_sized 32 1088 _ _ _
    (rows windows MOST_PER_DEVICE window_size _ (leb-true windows MOST_PER_DEVICE (condition _ _ _ windows c)) (items_sized (after_window o) (window_form o) [] windows window_size (window_sized o))) (λ ws f.
    field_sized 1088 0 _ _ _
    (rows irqs MOST_PER_DEVICE irq_size _ (leb-true irqs MOST_PER_DEVICE (condition _ _ _ irqs d)) (items_sized (after_irq o.header) (irq o.header) [] irqs irq_size (irq_sized o.header))) (λ qs g.
    done_sized _))))))))
