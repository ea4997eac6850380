-- Parts that keep the conditions of an image in plain words are parts of an image.
use Rattle.std.proofs.Common.{◌≡◌, refl, sym, subst, zero-add, arith, ◌==◌, ℕ, zero, suc, ◌+◌, ◌*◌, ◌<◌, ◌≤◌, ◌^◌, not, Bool, true, false, List, [], ◌∷◌, length, get_or, replicate, inl, inr, le-leb, lt-ltb, Option, Some, None}
use Rattle.std.specs.Prelude.{is_some}
use Rattle.std.specs.List.{All, AllZip, sum_by}
use Rattle.std.proofs.lemmas.List.{length-replicate}
use Rattle.std.proofs.lemmas.Bool.{cases_eq, ne_eqb, or_right}
use Rattle.muen_num.specs.declared.limits.TheConstants.{MOST_BLOCK_BYTES, MOST_DEVICE_BYTES, PAGE}
use Rattle.binary_form.specs.Form.{each_fit, each, fixed_bytes, field, only, gap, done, number, byte, coded, either, present, absent_value, items}
use Rattle.image_pack.specs.Codes.{is_own, mark_bytes, mark_in}
use Rattle.image_pack.specs.Image.{content, counts, no_spans_before, header, image, suits_tau0, tau0_at}
use Rattle.image_pack.specs.ImageConditions.{IsChoice, IsContent, KeepsConditions}
use Rattle.image_pack.specs.SpanConditions.{device_pages_of, pages_of}
use Rattle.image_pack.specs.declared.parts.Image.{Image}
use Rattle.image_pack.specs.declared.parts.SpanPart.{SpanPart}
use Rattle.image_pack.proofs.SpansFit.{GoOn, spans_fit}
use Rattle.image_pack.proofs.SubjectsFit.{groups_fit, subjects_fit}
use Rattle.image_pack.proofs.FramesFit.{majors_fit}
use Rattle.image_pack.proofs.FramesKeep.{high_end}
use Rattle.image_pack.proofs.DevicesFit.{devices_fit}

-- ---- the header

mark_decodes : (has : Bool) → mark_in (mark_bytes has) ≡ Some has
unfolding mark_in mark_bytes
mark_decodes true = refl
mark_decodes false = refl

choice_fits : (spans : List SpanPart) (t : Option ℕ) (n : ℕ) → length spans ≡ n → n ≤ 1152 → IsChoice spans t → (tau0_at (is_some t) n).fits t
unfolding tau0_at either present absent_value field only gap done number
choice_fits spans None n same few h = refl
choice_fits spans (Some t) n same few h = let low : t < length spans = h.0 in ((omega (arith, low, same, few), lt-ltb t n (omega (arith, low, same))), refl)

header_fits : (i : Image) → KeepsConditions i → header.fits i.header
unfolding header counts field only gap done number byte coded
header_fits i k =
    let c = k.counts in
    let cpus : i.header.cpus ≤ 8 = high_end 1 8 i.header.cpus c.cpus in
    let subjects : i.header.subjects ≤ 32 = high_end 1 32 i.header.subjects c.few_subjects in
    let groups : i.header.groups ≤ 32 = high_end 1 32 i.header.groups c.few_groups in
    let majors : i.header.majors ≤ 16 = high_end 1 16 i.header.majors c.few_majors in
    let devices : i.header.devices ≤ 32 = c.few_devices in
    let few : length i.spans ≤ 1152 = k.spans.few in
    let same = c.spans in
    let spans : i.header.spans ≤ 1152 = omega (arith, few, same) in (
      mark_decodes (is_some i.header.tau0),
      (
        (omega (arith, cpus), c.cpus),
        (
          (omega (arith, subjects), c.few_subjects),
          (
            (omega (arith, groups), c.few_groups),
            (
              (omega (arith, majors), c.few_majors),
              (
                (omega (arith, devices), le-leb _ _ c.few_devices),
                (
                  (omega (arith, spans), le-leb _ _ spans),
                  (
                    choice_fits i.spans i.header.tau0 i.header.spans same spans k.choice,
                    refl,
                  ),
                ),
              ),
            ),
          ),
        ),
      ),
    )

-- ---- spans and contents

unseen : (n k : ℕ) → k < n → get_or (replicate n false) k true ≡ false
unseen zero k low = absurd (omega (arith, low))
unseen (suc n) zero low = refl
unseen (suc n) (suc k) low = unseen n k (omega (arith, low))

chosen_suits : (t : Option ℕ) (spans : List SpanPart) → IsChoice spans t → All (λ s. suits_tau0 t s.number s.kind ≡ true) spans
chosen_suits None spans h k d l = refl
chosen_suits (Some t) spans h k d l =
    let s = get_or spans k d in
    elim (cases_eq s.number t) [
      | inl e ↦ or_right (not (s.number == t)) (is_own s.kind) (h.1 k d l e)
      | inr ne ↦ rw (ne_eqb s.number t ne) refl
    ]

from_zero : (p a m : ℕ) → p * a ≤ m → p * (0 + a) ≤ m
from_zero p a m h = subst (λ n. p * n ≤ m) (sym (zero-add a)) h

at_start : (i : Image) → KeepsConditions i → GoOn i.header (no_spans_before i.header) i.spans
at_start i k = record {
  left = sym k.counts.spans;
  all = length-replicate i.header.spans false;
  each = k.spans.each;
  ascend = k.spans.ascend;
  behind = λ n d l. omega arith;
  numbered = λ n d l. let low = k.spans.numbered n d l in let same = k.counts.spans in omega (arith, low, same);
  differ = k.spans.differ;
  unseen = λ n d l. let low = k.spans.numbered n d l in let same = k.counts.spans in unseen i.header.spans (get_or i.spans n d).number (omega (arith, low, same));
  pages = from_zero PAGE (sum_by pages_of i.spans) MOST_BLOCK_BYTES k.spans.room.pages;
  device_pages = from_zero PAGE (sum_by device_pages_of i.spans) MOST_DEVICE_BYTES k.spans.room.device_pages;
  choice = chosen_suits i.header.tau0 i.spans k.choice;
}

contents_fit : (spans : List SpanPart) (bytes : List (List ℕ)) → AllZip IsContent spans bytes → each_fit (λ s. (content s).fits) spans bytes
unfolding each_fit content fixed_bytes
contents_fit [] [] h = tt
contents_fit [] (b ∷ bs) h = h
contents_fit (s ∷ ss) [] h = h
contents_fit (s ∷ ss) (b ∷ bs) h = (h.0, contents_fit ss bs h.1)

-- ---- the whole

pub conditions_fit : (i : Image) → KeepsConditions i → image.fits i
unfolding image field done items each
conditions_fit i k =
    let c = k.counts in
    let cpus : i.header.cpus ≤ 8 = high_end 1 8 i.header.cpus c.cpus in
    let subjects : i.header.subjects ≤ 32 = high_end 1 32 i.header.subjects c.few_subjects in
    let groups : i.header.groups ≤ 32 = high_end 1 32 i.header.groups c.few_groups in
    let many : length i.plan.groups ≡ i.header.groups = c.groups in
    let there : length i.subjects ≡ i.header.subjects = c.subjects in
    let few : length i.spans ≤ 1152 = k.spans.few in
    let same : length i.spans ≡ i.header.spans = c.spans in
    let low : All (λ s. s.number < 2 ^ 16) i.spans = λ n d l. let below = k.spans.numbered n d l in omega (arith, below, few) in (
      header_fits i k,
      (
        (c.spans, spans_fit i.header (no_spans_before i.header) i.spans (omega (arith, few, same)) (at_start i k)),
        (
          (c.groups, groups_fit i.header i.plan.groups cpus subjects k.groups),
          (
            (c.subjects, subjects_fit i (record { cpus = cpus; groups = omega (arith, groups, many); spans = low }) (omega (arith, there, subjects)) k.subjects),
            (
              (c.majors, majors_fit _ i.plan.majors (omega (arith, groups, many)) cpus k.majors),
              (
                (c.devices, devices_fit i [] i.devices (record { subjects = subjects; spans = low }) k.devices k.devices_differ (λ n d l. refl)),
                (
                  contents_fit i.spans i.contents k.contents,
                  refl,
                ),
              ),
            ),
          ),
        ),
      ),
    )
