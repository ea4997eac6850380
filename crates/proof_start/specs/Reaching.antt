-- Where the windows of a subject lead in the memory of an image: never to a region of the kernel's, but to state pages that the
-- policy lets the subject monitor.
use Rattle.std.specs.Prelude.{◌≡◌, ◌⊎◌, ℕ, ◌+◌, ◌<◌, ◌≤◌, true, false, slice_get, Some}
use Rattle.std.specs.List.{list_any}
use Rattle.std.specs.Str.{bytes_eq}
use Rattle.image_pack.specs.SpanConditions.{end_of}
use Rattle.image_pack.specs.declared.parts.Image.{Image}
use Rattle.image_pack.specs.declared.parts.SpanPart.{SpanPart}
use Rattle.image_pack.specs.declared.parts.SubjectPart.{SubjectPart}
use Rattle.image_memory.specs.Memory.{address_at, memory_of}
use Rattle.image_soundness.specs.Sound.{is_kernel}
use Rattle.vmx_machine.specs.Walks.{walk_of}
use Rattle.vmx_machine.specs.walk.Walk.TheVariants.{At}
use Rattle.muen_num.specs.declared.access.AccessKind.{AccessKind}
use Rattle.muen_num.specs.declared.limits.TheConstants.{GUEST_END, PAGE}
use Rattle.policy_lawful.specs.source.Source.{Source}
use Rattle.policy_lawful.specs.source.Subject.{Subject}

-- an address lies in a span that isn't the kernel's
pub record IsInThing (i : Image) (address : ℕ) : Type 0 where
  pub index : ℕ
  pub span : SpanPart
  pub here : slice_get i.spans index ≡ Some span
  pub kind : is_kernel span.kind ≡ false
  pub low : span.address ≤ address
  pub high : address < end_of span

-- an address lies on the state page of a subject that this one may monitor
pub record IsInMonitored (p : Source) (i : Image) (s : Subject) (address : ℕ) : Type 0 where
  pub index : ℕ
  pub subject : Subject
  pub part : SubjectPart
  pub named : slice_get p.subjects index ≡ Some subject
  pub here : slice_get i.subjects index ≡ Some part
  pub monitored : list_any (λ m. bytes_eq m.subject subject.name) s.monitors ≡ true
  pub low : address_at i part.state ≤ address
  pub high : address < address_at i part.state + PAGE

-- **no window reaches a kernel region** but the state pages that the policy lets the subject monitor
abbrev pub ReachesNoKernelRegion : Source → Image → Subject → SubjectPart → Type 0
ReachesNoKernelRegion p i s q =
    (addr address : ℕ) (kind : AccessKind) → addr < GUEST_END → walk_of (memory_of i) q.eptp addr kind ≡ At address
    → IsInThing i address ⊎ IsInMonitored p i s address
