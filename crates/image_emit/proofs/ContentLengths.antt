-- How many bytes each span has in the image.
use Rattle.std.proofs.Common.{◌≡◌, ℕ, ◌*◌, ◌/◌, ◌%◌, ◌⊎◌, inl, inr, All, List, [], ◌∷◌, length, map, get_or, Some, sym, ap, ◌∙◌, subst, arith}
use Rattle.std.specs.Prelude.{if◌then◌else◌, slice_get, unwrap_or}
use Rattle.std.specs.List.{AllZip}
use Rattle.std.proofs.lemmas.List.Elements.{All-head, All-tail}
use Rattle.std.proofs.lemmas.List.Sorted.{All-permutation}
use Rattle.std.proofs.lemmas.Option.{slice_get-get_or, slice_get_past, unwrap_or-slice_get}
use Rattle.image_pack.specs.Form.{IsBytes}
use Rattle.image_emit.specs.Made.{IsMade, Made, content_at, policy_of, region_bytes}
use Rattle.image_emit.proofs.RegionSizes.{bytes_many, bytes_sized}
use Rattle.image_emit.proofs.NumberedSpans.{IsMemoryAt, IsRegionAt, span_is}
use Rattle.image_pack.specs.Codes.{is_device}
use Rattle.image_pack.specs.ImageConditions.{FillsSpan, IsContent}
use Rattle.image_pack.specs.declared.parts.SpanPart.{SpanPart}
use Rattle.muen_num.proofs.Lists.{all_at}
use Rattle.muen_num.specs.declared.limits.TheConstants.{PAGE}
use Rattle.policy_lawful.specs.Resolution.{source_of}
use Rattle.policy_lawful.proofs.KeptRules.{rules_of}
use Rattle.span_emit.specs.SpansOf.{spans_of}
use Rattle.span_emit.proofs.KeptRegions.{IsWhole, regions_whole}

-- ---- regions are whole pages

pub whole_regions : (m : Made) → IsMade m → All IsWhole m.placed.expanded.regions
whole_regions m h = subst (All IsWhole) (sym h.expansion.regions) (regions_whole (source_of (policy_of m)) (rules_of h.lawful).rule_4)

pub whole_size : (size : ℕ) → size % PAGE ≡ 0 → PAGE * (size / PAGE) ≡ size
whole_size size h = omega (arith, h)

-- what holds of each and its image, and what holds of each image, holds of a list beside its images
beside : {X Y : Type 0} (R : X → Y → Type 0) (Q : Y → Type 0) (f : X → Y) (xs : List X) → All (λ x. R x (f x)) xs → All Q (map f xs) → AllZip (λ x y. R x y × Q y) xs (map f xs)
beside R Q f [] h g = tt
beside R Q f (x ∷ xs) h g = ((All-head (λ x. R x (f x)) x xs h, All-head Q (f x) (map f xs) g), beside R Q f xs (All-tail (λ x. R x (f x)) x xs h) (All-tail Q (f x) (map f xs) g))

-- ---- each span

module _ (m : Made) (h : IsMade m) where
  of_region : (n : ℕ) (s : SpanPart) → IsRegionAt m n s → FillsSpan s (content_at m s)
  of_region n s a =
      let whole : IsWhole a.region = all_at IsWhole m.placed.expanded.regions n a.region (whole_regions m h) a.there in
      let size : PAGE * (a.region.size / PAGE) ≡ a.region.size = whole_size a.region.size whole.pages in
      subst (λ s. FillsSpan s (content_at m s)) (sym a.is)
      (bytes_sized m h n a.region a.there
      ∙ sym size
      ∙ ap (λ b. if b then 0 else PAGE * (a.region.size / PAGE)) (sym whole.no_device))

  of_memory : (n : ℕ) (s : SpanPart) → IsMemoryAt m n s → FillsSpan s (content_at m s)
  of_memory n s a =
      subst (λ s. FillsSpan s (content_at m s)) (sym a.is)
      (ap length (sym (unwrap_or-slice_get (region_bytes m) n []) ∙ ap (λ o. unwrap_or o []) (slice_get_past (region_bytes m) n (omega (arith, bytes_many m h, a.behind)))))

  of_either : (n : ℕ) (s : SpanPart) → IsRegionAt m n s ⊎ IsMemoryAt m n s → FillsSpan s (content_at m s)
  of_either n s (inl a) = of_region n s a
  of_either n s (inr a) = of_memory n s a

  -- a span has as many bytes in the image as pages; a device's memory has none
  pub content_lengths : (n : ℕ) (s : SpanPart) → slice_get (spans_of m.placed) n ≡ Some s → length (content_at m s) ≡ (if is_device s.kind then 0 else PAGE * s.pages)
  content_lengths n s at = of_either n s (span_is m h n s at)

  pub each_content : All (λ s. FillsSpan s (content_at m s)) m.spans
  each_content =
      All-permutation (λ s. FillsSpan s (content_at m s)) (spans_of m.placed) m.spans h.numbered
      (λ k d l. content_lengths k (get_or (spans_of m.placed) k d) (slice_get-get_or (spans_of m.placed) k d l))

  pub contents_kept : All IsBytes (map (content_at m) m.spans) → AllZip IsContent m.spans (map (content_at m) m.spans)
  contents_kept bytes = beside FillsSpan IsBytes (content_at m) m.spans each_content bytes
