-- The spans that a subject's part of the image numbers are the kernel's regions for this subject.
use Rattle.std.proofs.Common.{◌≡◌, ℕ, ◌+◌, ◌*◌, Some, refl, ap, subst, arith}
use Rattle.std.specs.Prelude.{option_map, slice_get}
use Rattle.ept_emit.specs.Pages.{ept_pages}
use Rattle.event_emit.specs.declared.event_tables.EventTables.{EventTables}
use Rattle.expand_kernel.specs.granted.Grants.{Grants}
use Rattle.expand_kernel.specs.ByIndex.{granted_ranges, kernel_first}
use Rattle.expand_kernel.specs.Regions.{anywhere, kernel_regions}
use Rattle.expand_kernel.specs.thing.RegionKind.TheVariants.{Kernel}
use Rattle.image_emit.specs.Made.{IsMade, Made, image_of, policy_of}
use Rattle.image_emit.proofs.ByNumber.{span_numbered}
use Rattle.image_emit.proofs.BySubject.{IsAtIndex, each_subject}
use Rattle.image_emit.proofs.SpansOfKernel.{kernel_numbered, kernel_span}
use Rattle.image_soundness.specs.Memory.{Span}
use Rattle.image_soundness.specs.Named.{tag_at}
use Rattle.image_soundness.specs.Sound.{ForEachSubject}
use Rattle.muen_num.specs.declared.limits.TheConstants.{PAGE}
use Rattle.muen_num.specs.declared.tag.TagPart.{TagPart}
use Rattle.muen_num.specs.declared.tag.TagPart.TheVariants.{State, Iobm, Msrbm, Msrs}
use Rattle.policy_lawful.specs.Resolution.{source_of}
use Rattle.policy_lawful.specs.declared.resolved.Subject.{Subject}
use Rattle.proof_build.specs.Built.{HasKernelSpans, kernel_tag}
use Rattle.proof_build.proofs.Tables.{reads_own}
use Rattle.subject_emit.specs.declared.subject_pages.SubjectPages.{SubjectPages}

module _ (m : Made) (h : IsMade m) (k : ℕ) (s : Subject) (g : Grants) (t : EventTables) (q : SubjectPages) (at : IsAtIndex m k s g t q) where
  -- the tag of one of the five
  pub tagged : (c size : ℕ) (part : TagPart) → slice_get (kernel_regions s.name (ept_pages (granted_ranges g.windows))) c ≡ Some (anywhere Kernel s.name part size)
      → tag_at (image_of m) (kernel_first (policy_of m) k + c) ≡ Some (kernel_tag s.name part)
  tagged c size part e =
      ap (option_map (λ (e : Span). e.0.tag))
      (span_numbered m h (kernel_first (policy_of m) k + c) (kernel_span m h k s g t q at c size part) (kernel_numbered m h k s g t q at c size part e))

  pub state_tagged : tag_at (image_of m) (kernel_first (policy_of m) k) ≡ Some (kernel_tag s.name State)
  state_tagged =
      let first : kernel_first (policy_of m) k + 0 ≡ kernel_first (policy_of m) k = omega arith in
      subst (λ n. tag_at (image_of m) n ≡ Some (kernel_tag s.name State)) first (tagged 0 PAGE State refl)

pub kernel_spans : (m : Made) → IsMade m → ForEachSubject (source_of (policy_of m)) (image_of m) (HasKernelSpans (image_of m))
kernel_spans m h =
    each_subject m h (HasKernelSpans (image_of m))
    (λ k s g t q at. record {
      state = state_tagged m h k s g t q at;
      tables = reads_own m h k s g t q at;
      iobm = tagged m h k s g t q at 2 (2 * PAGE) Iobm refl;
      msrbm = tagged m h k s g t q at 3 PAGE Msrbm refl;
      area = tagged m h k s g t q at 4 PAGE Msrs refl;
    })
