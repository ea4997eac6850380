-- Parts of an image keep its conditions in plain words.
use Rattle.std.proofs.Common.{◌≡◌, sym, subst, zero-add, arith, ◌==◌, ℕ, ◌+◌, ◌*◌, ◌<◌, ◌≤◌, true, false, List, [], ◌∷◌, length, get_or, Option, Some, None}
use Rattle.std.specs.Prelude.{is_some}
use Rattle.std.specs.List.{All, AllZip, sum_by}
use Rattle.std.proofs.lemmas.List.{length-replicate}
use Rattle.std.proofs.lemmas.Bool.{eq-eqb, leb-true, ltb-true}
use Rattle.muen_num.proofs.Booleans.{implied}
use Rattle.muen_num.specs.declared.limits.TheConstants.{MOST_BLOCK_BYTES, MOST_DEVICE_BYTES, MOST_DEVICES, MOST_DEVICE_WINDOWS, MOST_REGIONS, MOST_MAJOR_FRAMES, MOST_CPUS, MOST_SUBJECTS, PAGE}
use Rattle.binary_form.specs.Form.{each_fit, each, fixed_bytes, field, only, gap, done, number, byte, either, present, items}
use Rattle.image_pack.specs.Codes.{is_own}
use Rattle.image_pack.specs.Image.{content, counts, header, image, is_between_inclusive, no_spans_before, outline, suits_tau0, tau0_at}
use Rattle.image_pack.specs.ImageConditions.{IsChoice, IsContent, KeepsConditions}
use Rattle.image_pack.specs.Parts.{IsParts}
use Rattle.image_pack.specs.SpanConditions.{AreSpans, device_pages_of, pages_of}
use Rattle.image_pack.specs.declared.outline.Header.{Header}
use Rattle.image_pack.specs.declared.parts.Image.{Image}
use Rattle.image_pack.specs.declared.parts.SpanPart.{SpanPart}
use Rattle.image_pack.proofs.SpansKeep.{Follow, spans_follow}
use Rattle.image_pack.proofs.SubjectsKeep.{groups_kept, subjects_kept}
use Rattle.image_pack.proofs.FramesKeep.{high_end, majors_kept}
use Rattle.image_pack.proofs.DevicesKeep.{devices_kept}

-- ---- the header

-- the counts of a header that fits
pub record Counts (h : Header) : Type 0 where
  pub cpus : is_between_inclusive 1 MOST_CPUS h.cpus ≡ true
  pub subjects : is_between_inclusive 1 MOST_SUBJECTS h.subjects ≡ true
  pub groups : is_between_inclusive 1 MOST_SUBJECTS h.groups ≡ true
  pub majors : is_between_inclusive 1 MOST_MAJOR_FRAMES h.majors ≡ true
  pub devices : h.devices ≤ MOST_DEVICES
  pub spans : h.spans ≤ MOST_REGIONS + MOST_DEVICE_WINDOWS
  pub tau0 : (tau0_at (is_some h.tau0) h.spans).fits h.tau0

pub header_counts : (h : Header) → header.fits h → Counts h
unfolding header counts field only gap done byte number
header_counts h f = record {
  cpus = f.1.0.1;
  subjects = f.1.1.0.1;
  groups = f.1.1.1.0.1;
  majors = f.1.1.1.1.0.1;
  devices = leb-true h.devices MOST_DEVICES f.1.1.1.1.1.0.1;
  spans = leb-true h.spans (MOST_REGIONS + MOST_DEVICE_WINDOWS) f.1.1.1.1.1.1.0.1;
  tau0 = f.1.1.1.1.1.1.1.0;
}

chosen_low : (t n : ℕ) → (tau0_at true n).fits (Some t) → t < n
unfolding tau0_at either present field only gap done number
chosen_low t n f = ltb-true t n f.0.1

choice_kept : (spans : List SpanPart) (t : Option ℕ) (n : ℕ) → length spans ≡ n → (tau0_at (is_some t) n).fits t → All (λ s. suits_tau0 t s.number s.kind ≡ true) spans → IsChoice spans t
choice_kept spans None n same f all = tt
choice_kept spans (Some t) n same f all =
    let low : t < n = chosen_low t n f in
    (omega (arith, low, same), λ k d l e. let s = get_or spans k d in implied (s.number == t) (is_own s.kind) (eq-eqb s.number t e) (all k d l))

-- ---- spans and contents

from_zero : (p a m : ℕ) → p * (0 + a) ≤ m → p * a ≤ m
from_zero p a m h = subst (λ n. p * n ≤ m) (zero-add a) h

-- no spans need no room
pub no_room_needed : (f : SpanPart → ℕ) (p m : ℕ) (spans : List SpanPart) → (0 < length spans → p * (0 + sum_by f spans) ≤ m) → p * sum_by f spans ≤ m
no_room_needed f p m [] h = omega arith
no_room_needed f p m (s ∷ ss) h = from_zero p (sum_by f (s ∷ ss)) m (h (omega arith))

spans_kept : (h : Header) (spans : List SpanPart) → length spans ≡ h.spans → h.spans ≤ MOST_REGIONS + MOST_DEVICE_WINDOWS → Follow h (no_spans_before h) spans → AreSpans spans
spans_kept h spans same few f = record {
  few = omega (arith, same, few);
  each = f.each;
  ascend = f.ascend;
  numbered = λ k d l. let low = f.numbered k d l in omega (arith, low, same);
  differ = f.differ;
  room = record {
    pages = no_room_needed pages_of PAGE MOST_BLOCK_BYTES spans f.pages;
    device_pages = no_room_needed device_pages_of PAGE MOST_DEVICE_BYTES spans f.device_pages;
  };
}

contents_kept : (spans : List SpanPart) (bytes : List (List ℕ)) → each_fit (λ s. (content s).fits) spans bytes → AllZip IsContent spans bytes
unfolding each_fit content fixed_bytes
contents_kept [] [] h = tt
contents_kept [] (b ∷ bs) h = h
contents_kept (s ∷ ss) [] h = h
contents_kept (s ∷ ss) (b ∷ bs) h = (h.0, contents_kept ss bs h.1)

-- ---- the whole

-- parts that have a spelling keep the conditions
pub parts_keep : (i : Image) → IsParts i → KeepsConditions i
unfolding image field done items each
parts_keep i f =
    let c = header_counts i.header f.0 in
    let spans : length i.spans ≡ i.header.spans = f.1.0.0 in
    let subjects : length i.subjects ≡ i.header.subjects = f.1.1.1.0.0 in
    let cpus : i.header.cpus ≤ 8 = high_end 1 MOST_CPUS i.header.cpus c.cpus in
    let few_subjects : i.header.subjects ≤ 32 = high_end 1 MOST_SUBJECTS i.header.subjects c.subjects in
    let follow = spans_follow i.header (no_spans_before i.header) i.spans (sym spans) (length-replicate i.header.spans false) f.1.0.1 in
    let devices = devices_kept i i.devices f.1.1.1.1.1.0.1 in
    record {
      counts = record {
        cpus = c.cpus;
        few_subjects = c.subjects;
        few_groups = c.groups;
        few_majors = c.majors;
        few_devices = c.devices;
        subjects = subjects;
        groups = f.1.1.0.0;
        majors = f.1.1.1.1.0.0;
        devices = f.1.1.1.1.1.0.0;
        spans = spans;
      };
      spans = spans_kept i.header i.spans spans c.spans follow;
      choice = choice_kept i.spans i.header.tau0 i.header.spans spans c.tau0 follow.choice;
      groups = groups_kept i.header i.plan.groups f.1.1.0.1;
      subjects = subjects_kept i (omega (arith, subjects, few_subjects)) f.1.1.1.0.1;
      majors = majors_kept (outline i.header i.spans i.plan.groups) i.plan.majors cpus f.1.1.1.1.0.1;
      devices = devices.0;
      devices_differ = devices.1;
      contents = contents_kept i.spans i.contents f.1.1.1.1.1.1.0;
    }
