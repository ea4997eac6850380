-- The spans that a subject of an image has for itself.
use Rattle.std.proofs.Common.{◌≡◌, ℕ, Some}
use Rattle.std.specs.Prelude.{slice_get}
use Rattle.image_memory.proofs.SpanNumbers.{KernelSpan, kernel_span}
use Rattle.image_pack.specs.Codes.{part_code}
use Rattle.image_pack.specs.ImageConditions.{IsSubjectPart, KeepsConditions}
use Rattle.image_pack.specs.declared.parts.Image.{Image}
use Rattle.image_pack.specs.declared.parts.SubjectPart.{SubjectPart}
use Rattle.muen_num.specs.declared.tag.TagPart.TheVariants.{State, Iobm, Msrbm, Msrs}
use Rattle.muen_num.proofs.Indexed.{enumerated_at}
use Rattle.muen_num.proofs.Lists.{all_at}

-- the spans that a subject has for itself
pub record SubjectSpans (i : Image) (q : SubjectPart) : Type 0 where
  pub state : KernelSpan i.spans (part_code State) 1 q.state
  pub iobm : KernelSpan i.spans (part_code Iobm) 2 q.iobm
  pub msrbm : KernelSpan i.spans (part_code Msrbm) 1 q.msrbm
  pub area : KernelSpan i.spans (part_code Msrs) 1 q.area

pub subject_kept : (i : Image) → KeepsConditions i → (s : ℕ) (q : SubjectPart) → slice_get i.subjects s ≡ Some q → (n : ℕ) × IsSubjectPart i (n, q)
subject_kept i keeps s q at =
    let e = enumerated_at 0 i.subjects s q at in
    (e.0, all_at (IsSubjectPart i) _ s (e.0, q) keeps.subjects e.1)

pub subject_spans : (i : Image) → KeepsConditions i → (s : ℕ) (q : SubjectPart) → slice_get i.subjects s ≡ Some q → SubjectSpans i q
subject_spans i keeps s q at =
    let k = (subject_kept i keeps s q at).1 in
    record {
      state = kernel_span i.spans (part_code State) 1 q.state keeps.spans k.state;
      iobm = kernel_span i.spans (part_code Iobm) 2 q.iobm keeps.spans k.iobm;
      msrbm = kernel_span i.spans (part_code Msrbm) 1 q.msrbm keeps.spans k.msrbm;
      area = kernel_span i.spans (part_code Msrs) 1 q.area keeps.spans k.area;
    }
