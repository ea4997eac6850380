-- What the kernel keeps for a subject is made of bytes in an image that keeps the conditions of its format.
use Rattle.std.proofs.Common.{◌≡◌, ℕ, ◌+◌, ◌*◌, List, map, Some, refl, ap, ◌∙◌, subst}
use Rattle.std.specs.Prelude.{option_map, slice_get}
use Rattle.std.specs.List.{Contains}
use Rattle.std.proofs.lemmas.List.Sorted.{Contains-permutation}
use Rattle.std.proofs.lemmas.Option.{get_or_from_slice_get, slice_get-get_or, slice_get-map, slice_get_within}
use Rattle.ept_emit.specs.Pages.{ept_pages}
use Rattle.event_emit.specs.declared.event_tables.EventTables.{EventTables}
use Rattle.expand_kernel.specs.ByIndex.{granted_ranges, kernel_first}
use Rattle.expand_kernel.specs.Regions.{anywhere, kernel_regions}
use Rattle.expand_kernel.specs.granted.Grants.{Grants}
use Rattle.expand_kernel.specs.thing.RegionKind.TheVariants.{Kernel}
use Rattle.image_emit.proofs.BySubject.{IsAtIndex}
use Rattle.image_emit.proofs.SpansOfKernel.{kernel_content, kernel_numbered, kernel_span}
use Rattle.image_emit.specs.Made.{IsMade, Made, content_at, image_of, kernel_bytes, policy_of}
use Rattle.image_pack.proofs.PartsKeep.{parts_keep}
use Rattle.image_pack.specs.Form.{IsBytes}
use Rattle.image_pack.specs.ImageConditions.{IsContent}
use Rattle.image_pack.specs.Parts.{IsParts}
use Rattle.image_pack.specs.declared.parts.SpanPart.{SpanPart}
use Rattle.muen_num.proofs.Pairs.{both_at}
use Rattle.muen_num.specs.declared.limits.TheConstants.{PAGE}
use Rattle.muen_num.specs.declared.tag.TagPart.{TagPart}
use Rattle.muen_num.specs.declared.tag.TagPart.TheVariants.{Ept, Iobm, Msrbm}
use Rattle.policy_lawful.specs.declared.resolved.Subject.{Subject}
use Rattle.span_emit.specs.SpansOf.{spans_of}
use Rattle.subject_emit.proofs.OnePages.{HaveBytes}
use Rattle.subject_emit.specs.declared.subject_pages.SubjectPages.{SubjectPages}

module _ (m : Made) (h : IsMade m) (parts : IsParts (image_of m)) where
  -- what a span has in the image
  of_span : (s : SpanPart) → Contains m.spans s → IsBytes (content_at m s)
  unfolding image_of
  of_span s among =
      let contents = map (content_at m) m.spans in
      let at : slice_get m.spans among.0 ≡ Some s = slice_get-get_or m.spans among.0 s among.1 ∙ ap Some among.2 in
      let held : slice_get contents among.0 ≡ Some (content_at m s) = slice_get-map (content_at m) m.spans among.0 ∙ ap (option_map (content_at m)) at in
      (both_at IsContent m.spans contents among.0 s (content_at m s) (parts_keep (image_of m) parts).contents at held).1

  module _ (k : ℕ) (s : Subject) (g : Grants) (t : EventTables) (q : SubjectPages) (at : IsAtIndex m k s g t q) where
    -- .. so the region of this number among those of the kernel for the subject
    of_kernel : (c size : ℕ) (part : TagPart) (bytes : List ℕ)
        → slice_get (kernel_regions s.name (ept_pages (granted_ranges g.windows))) c ≡ Some (anywhere Kernel s.name part size) → slice_get (kernel_bytes q) c ≡ Some bytes → IsBytes bytes
    of_kernel c size part bytes region held =
        let span : SpanPart = kernel_span m h k s g t q at c size part in
        let spans = spans_of m.placed in
        let number = kernel_first (policy_of m) k + c in
        let numbered : slice_get spans number ≡ Some span = kernel_numbered m h k s g t q at c size part region in
        let among = Contains-permutation spans m.spans span h.numbered (number, slice_get_within spans number span numbered, get_or_from_slice_get spans number span span numbered) in
        subst IsBytes (kernel_content m h k s g t q at c size part bytes held) (of_span span among)

    pub have_bytes : HaveBytes q
    have_bytes = record {
      tables = of_kernel 1 (ept_pages (granted_ranges g.windows) * PAGE) Ept q.tables refl refl;
      ports = of_kernel 2 (2 * PAGE) Iobm q.ports refl refl;
      msrs = of_kernel 3 PAGE Msrbm q.msrs refl refl;
    }
