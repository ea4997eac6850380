-- An image is spelled in bytes, in no more than the longest one has.
use Rattle.std.proofs.Common.{◌≡◌, refl, sym, subst, ℕ, ◌+◌, ◌*◌, ◌≤◌, Bool, true, false, if◌then◌else◌, List, [], ◌∷◌, length, arith}
use Rattle.std.specs.List.{sum_by}
use Rattle.std.proofs.lemmas.Bool.{leb-true}
use Rattle.std.proofs.lemmas.List.{length-replicate}
use Rattle.std.proofs.lemmas.List.Sums.{sum_by-cons}
use Rattle.muen_num.specs.declared.limits.TheConstants.{IMAGE_MOST, MOST_BLOCK_BYTES, MOST_CPUS, MOST_DEVICES, MOST_DEVICE_WINDOWS, MOST_MAJOR_FRAMES, MOST_REGIONS, MOST_SUBJECTS, PAGE}
use Rattle.binary_form.specs.Form.{IsBytes, items}
use Rattle.binary_form.proofs.Sizes.{IsSized, bytes_sized, done_sized, each_sized, field_sized, items_sized, rows, wider}
use Rattle.image_pack.specs.Codes.{is_device}
use Rattle.image_pack.specs.Image.{after, after_device, content, device, group, image, major, next_index, no_spans_before, nothing_left, outline, span, subject}
use Rattle.image_pack.specs.Parts.{IsImage}
use Rattle.image_pack.specs.Sizes.{device_size, group_size, major_size, most_image_bytes, span_size, subject_size}
use Rattle.image_pack.specs.SpanConditions.{pages_of}
use Rattle.image_pack.specs.declared.outline.Header.{Header}
use Rattle.image_pack.specs.declared.parts.Image.{Image}
use Rattle.image_pack.specs.declared.parts.SpanPart.{SpanPart}
use Rattle.image_pack.proofs.FramesKeep.{high_end}
use Rattle.image_pack.proofs.PartsKeep.{header_counts, no_room_needed}
use Rattle.image_pack.proofs.RowSizes.{device_sized, group_sized, header_sized, major_sized, span_sized, subject_sized}
use Rattle.image_pack.proofs.SpansKeep.{spans_follow}

-- ---- contents

-- how many bytes a span has in an image
abbrev space : SpanPart → ℕ
space s = if is_device s.kind then 0 else PAGE * s.pages

content_sized : (s : SpanPart) → IsSized (space s) (content s)
unfolding content
content_sized s = bytes_sized (space s)

space_is : (device : Bool) (pages : ℕ) → (if device then 0 else PAGE * pages) ≡ PAGE * (if device then 0 else pages)
space_is true pages = refl
space_is false pages = refl

all_space : (spans : List SpanPart) → sum_by space spans ≡ PAGE * sum_by pages_of spans
all_space [] = refl
all_space (s ∷ spans) =
    let here : space s ≡ PAGE * pages_of s = space_is (is_device s.kind) s.pages in
    let rest = all_space spans in
    let bytes = sum_by-cons space s spans in
    let pages = sum_by-cons pages_of s spans in
    omega (arith, here, rest, bytes, pages)

-- the spans of an image have room for what they hold
room : (h : Header) (spans : List SpanPart) → (items (after h) (span h) (no_spans_before h) h.spans).fits spans → sum_by space spans ≤ MOST_BLOCK_BYTES
unfolding items
room h spans fits =
    let f = spans_follow h (no_spans_before h) spans (sym fits.0) (length-replicate h.spans false) fits.1 in
    let most : PAGE * sum_by pages_of spans ≤ MOST_BLOCK_BYTES = no_room_needed pages_of PAGE MOST_BLOCK_BYTES spans f.pages in
    let all = all_space spans in
    omega (arith, most, all)

-- ---- the whole

pub image_sized : IsSized most_image_bytes image
unfolding image
image_sized =
    field_sized 24 67419072 _ _ _ header_sized (λ h fits.
    let c = header_counts h fits in
    let few : h.subjects ≤ MOST_SUBJECTS = high_end 1 MOST_SUBJECTS h.subjects c.subjects in
    let cpus : h.cpus ≤ MOST_CPUS = high_end 1 MOST_CPUS h.cpus c.cpus in
    field_sized 184320 67234752 _ _ _
    (rows h.spans (MOST_REGIONS + MOST_DEVICE_WINDOWS) span_size _ c.spans (items_sized (after h) (span h) (no_spans_before h) h.spans span_size (span_sized h))) (λ spans are.
    field_sized 256 67234496 _ _ _
    (rows h.groups MOST_SUBJECTS group_size _ (high_end 1 MOST_SUBJECTS h.groups c.groups) (items_sized (nothing_left h) (group h) 0 h.groups group_size (group_sized h))) (λ groups a.
    let o = outline h spans groups in
    field_sized 19456 67215040 _ _ _
    (rows h.subjects MOST_SUBJECTS subject_size _ few (items_sized (next_index o) (subject o) 0 h.subjects subject_size (λ b. subject_sized o b few))) (λ subjects b.
    field_sized 66112 67148928 _ _ _
    (rows h.majors MOST_MAJOR_FRAMES major_size _ (high_end 1 MOST_MAJOR_FRAMES h.majors c.majors) (items_sized (nothing_left o) (major o) 0 h.majors major_size (λ b. major_sized o b cpus))) (λ majors d.
    field_sized 40064 67108864 _ _ _
    (rows h.devices MOST_DEVICES device_size _ c.devices (items_sized (after_device o) (device o) [] h.devices device_size (device_sized o))) (λ devices e.
    field_sized 67108864 0 _ _ _ (wider (sum_by space spans) 67108864 _ (room h spans are) (each_sized content space spans content_sized)) (λ contents g.
    done_sized _)))))))

pub image_bytes : (bytes : List ℕ) (i : Image) → IsImage bytes i → IsBytes bytes
image_bytes bytes i is = subst IsBytes (sym is.bytes_are) (image_sized.bytes i is.parts)

pub longest_fits : most_image_bytes ≤ IMAGE_MOST
longest_fits = leb-true most_image_bytes IMAGE_MOST refl

pub image_bounded : (bytes : List ℕ) (i : Image) → IsImage bytes i → length bytes ≤ most_image_bytes
image_bounded bytes i is = subst (λ (b : List ℕ). length b ≤ most_image_bytes) (sym is.bytes_are) (image_sized.few i is.parts)

pub image_fits : (bytes : List ℕ) (i : Image) → IsImage bytes i → length bytes ≤ IMAGE_MOST
image_fits bytes i is =
    let few = image_bounded bytes i is in
    let most = longest_fits in
    omega (arith, few, most)
