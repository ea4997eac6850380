-- The small image keeps the conditions of its format: so there are bytes that are this image.
use Rattle.std.proofs.Common.{◌≢◌, ◌<◌, ◌≤◌, [], ◌∷◌, replicate, None, refl, arith}
use Rattle.std.specs.List.{All, AllPairs, enumerate_from}
use Rattle.std.proofs.lemmas.List.Elements.{All-from_recursion, All-nil, All-replicate}
use Rattle.std.proofs.lemmas.List.Kept.{AllPairs-cons}
use Rattle.image_pack.proofs.ConditionsFit.{conditions_fit}
use Rattle.image_pack.specs.Image.{is_kernel_span}
use Rattle.image_pack.specs.ImageConditions.{AreCounted, IsDevicePart, IsEvent, IsGroup, IsSubjectPart, KeepsConditions}
use Rattle.image_pack.specs.SpanConditions.{Ascend, AreSpans, HaveDifferentNumbers, IsSpan, end_of}
use Rattle.image_pack.specs.declared.parts.SpanPart.{SpanPart}
use Rattle.muen_num.specs.Naming.{is_name}
use Rattle.muen_num.specs.declared.limits.TheConstants.{MOST_CALLS}
use Rattle.proof_witnesses.proofs.SmallBytes.{ones_bytes, ones_long, ports_bytes, ports_long, state_bytes, tables_bytes, tables_long, zeros_bytes, zeros_long}
use Rattle.proof_witnesses.specs.SmallImage.{small_image, small_part, small_spans}
use Rattle.proof_witnesses.specs.SmallLaws.{SmallIsImage}
use Rattle.image_emit.proofs.RegionSizes.{length-page}

-- ---- pairs of six

module _ (R : SpanPart → SpanPart → Type 0) (a b c d e f : SpanPart)
    (ab : R a b) (ac : R a c) (ad : R a d) (ae : R a e) (af : R a f) (bc : R b c) (bd : R b d) (be : R b e) (bf : R b f)
    (cd : R c d) (ce : R c e) (cf : R c f) (de : R d e) (df : R d f) (ef : R e f) where
  pairs : AllPairs R (a ∷ b ∷ c ∷ d ∷ e ∷ f ∷ [])
  pairs =
      AllPairs-cons R a (b ∷ c ∷ d ∷ e ∷ f ∷ []) (All-from_recursion (R a) (b ∷ c ∷ d ∷ e ∷ f ∷ []) (ab, (ac, (ad, (ae, (af, tt))))))
      (AllPairs-cons R b (c ∷ d ∷ e ∷ f ∷ []) (All-from_recursion (R b) (c ∷ d ∷ e ∷ f ∷ []) (bc, (bd, (be, (bf, tt)))))
      (AllPairs-cons R c (d ∷ e ∷ f ∷ []) (All-from_recursion (R c) (d ∷ e ∷ f ∷ []) (cd, (ce, (cf, tt))))
      (AllPairs-cons R d (e ∷ f ∷ []) (All-from_recursion (R d) (e ∷ f ∷ []) (de, (df, tt)))
      (AllPairs-cons R e (f ∷ []) (All-from_recursion (R e) (f ∷ []) (ef, tt))
      (AllPairs-cons R f [] (All-nil (R f)) (λ i j x low within. absurd (omega (arith, within))))))))

-- ---- the spans

each_span : All IsSpan small_spans
unfolding is_name
each_span =
    All-from_recursion IsSpan small_spans (
      record { aligned = refl; some = omega arith; low = omega arith; part = refl; owner = refl; called = tt },
      (
        record { aligned = refl; some = omega arith; low = omega arith; part = refl; owner = refl; called = tt },
        (
          record { aligned = refl; some = omega arith; low = omega arith; part = refl; owner = refl; called = tt },
          (
            record { aligned = refl; some = omega arith; low = omega arith; part = refl; owner = refl; called = tt },
            (
              record { aligned = refl; some = omega arith; low = omega arith; part = refl; owner = refl; called = tt },
              (record { aligned = refl; some = omega arith; low = omega arith; part = refl; owner = refl; called = tt }, tt),
            ),
          ),
        ),
      ),
    )

ascend : Ascend small_spans
ascend =
    pairs (λ a b. end_of a ≤ b.address) _ _ _ _ _ _ (omega arith) (omega arith) (omega arith) (omega arith) (omega arith) (omega arith) (omega arith) (omega arith) (omega arith)
    (omega arith) (omega arith) (omega arith) (omega arith) (omega arith) (omega arith)

differ : HaveDifferentNumbers small_spans
differ =
    pairs (λ a b. a.number ≢ b.number) _ _ _ _ _ _ (λ h. omega (arith, h)) (λ h. omega (arith, h)) (λ h. omega (arith, h)) (λ h. omega (arith, h)) (λ h. omega (arith, h))
    (λ h. omega (arith, h)) (λ h. omega (arith, h)) (λ h. omega (arith, h)) (λ h. omega (arith, h)) (λ h. omega (arith, h)) (λ h. omega (arith, h)) (λ h. omega (arith, h))
    (λ h. omega (arith, h)) (λ h. omega (arith, h)) (λ h. omega (arith, h))

spans : AreSpans small_spans
spans = record {
  few = omega arith;
  each = each_span;
  ascend = ascend;
  numbered = All-from_recursion (λ (s : SpanPart). s.number < 6) small_spans (omega arith, (omega arith, (omega arith, (omega arith, (omega arith, (omega arith, tt))))));
  differ = differ;
  room = record { pages = omega arith; device_pages = omega arith };
}

-- ---- the rest

no_events : All (IsEvent 1) (replicate MOST_CALLS None)
no_events = All-replicate (IsEvent 1) MOST_CALLS None tt

part : IsSubjectPart small_image (0, small_part)
unfolding is_kernel_span is_name
part = record {
  cpu = omega arith;
  in_group = refl;
  first = refl;
  few_msrs = omega arith;
  state = refl;
  iobm = refl;
  msrbm = refl;
  area = refl;
  eptp = refl;
  called = refl;
  calls = record { many = refl; each = no_events };
  traps = record { many = refl; each = no_events };
}

counted : AreCounted small_image
counted = record {
  cpus = refl;
  few_subjects = refl;
  few_groups = refl;
  few_majors = refl;
  few_devices = omega arith;
  subjects = refl;
  groups = refl;
  majors = refl;
  devices = refl;
  spans = refl;
}

pub keeps : KeepsConditions small_image
keeps = record {
  counts = counted;
  spans = spans;
  choice = tt;
  groups = All-from_recursion (IsGroup small_image.header) small_image.plan.groups (record { cpu = omega arith; first = omega arith }, tt);
  subjects = All-from_recursion (IsSubjectPart small_image) (enumerate_from 0 small_image.subjects) (part, tt);
  majors = refl;
  devices = All-nil (IsDevicePart small_image);
  devices_differ = λ i j x low within. absurd (omega (arith, within));
  contents =
      ((zeros_long, zeros_bytes), ((length-page 0, state_bytes), ((tables_long, tables_bytes), ((ports_long, ports_bytes), ((ones_long, ones_bytes), ((zeros_long, zeros_bytes), tt))))));
}

pub is_image : SmallIsImage
is_image = record { parts = conditions_fit small_image keeps; bytes_are = refl }
