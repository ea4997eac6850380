-- Whom the interrupts of an image reach, where its devices and subjects are the policy's.
use Rattle.std.proofs.Common.{◌≡◌, ℕ, ◌<◌, List, [], length, map, Option, Some, None, option_map, refl, sym, ap, ap₂, ◌∙◌, subst, arith}
use Rattle.std.specs.Prelude.{slice_index_or}
use Rattle.std.specs.List.{AllZip}
use Rattle.std.specs.Str.{bytes_eq}
use Rattle.muen_num.proofs.Members.{all_in, find_in}
use Rattle.muen_num.proofs.Lookups.{same_names}
use Rattle.image_soundness.proofs.NamesOfTargets.{reached_by_name}
use Rattle.image_soundness.specs.Named.{reached, subject_name}
use Rattle.image_soundness.specs.Sound.{IsDeviceOf, IsIrqOf}
use Rattle.image_pack.specs.ImageConditions.{IsDevicePart, IsIrqPart, IsReached, KeepsConditions}
use Rattle.image_pack.specs.declared.parts.Image.{Image}
use Rattle.image_pack.specs.declared.parts.IrqPart.{IrqPart}
use Rattle.muen_num.specs.declared.devices.IrqTarget.{IrqTarget}
use Rattle.image_pack.specs.declared.parts.SubjectPart.{SubjectPart}
use Rattle.policy_lawful.specs.Events.{irq_of}
use Rattle.policy_lawful.specs.source.Irq.{Irq}
use Rattle.policy_lawful.specs.source.Source.{Source}
use Rattle.policy_lawful.specs.source.Subject.{Subject}
use Rattle.record_text.specs.Bench.{BenchDevice}
use Rattle.proof_start.proofs.StartSets.{name_by}
use Rattle.proof_start.specs.GroundOf.{ground_of}
use Rattle.proof_turns.specs.Ground.{Ground, IsSubject, subject_name_at}
use Rattle.proof_runs.proofs.BenchGround.{HasTargets, IsRaised}
use Rattle.proof_runs.proofs.Beside.{beside, both_mapped}

-- what the bench says of a device
abbrev irqs_of : BenchDevice → List (List ℕ)
irqs_of b = b.irqs

abbrev name_of : BenchDevice → List ℕ
name_of b = b.name

-- an image's subjects have the policy's names
abbrev pub HaveNames : Ground → Image → Type 0
HaveNames g i = map (λ (q : SubjectPart). q.name) i.subjects ≡ map (λ (n : Subject). n.name) g.policy.subjects

-- each of them is one of the policy
abbrev pub AreSubjects : Ground → Image → Type 0
AreSubjects g i = (s : ℕ) → s < length i.subjects → IsSubject g s

-- a number is of a subject of one name
name_same : (g : Ground) (i : Image) (s : ℕ) → HaveNames g i → subject_name i s ≡ subject_name_at g s
name_same g i s named = ap (λ ns. slice_index_or ns s []) named ∙ name_by g.policy.subjects s

-- a target that is granted by its names is raised
reached_by : (g : Ground) (i : Image) (device irq : List ℕ) (target : Option IrqTarget) → HaveNames g i
    → ((t : IrqTarget) → target ≡ Some t → IsSubject g t.subject) → option_map (reached i) target ≡ irq_of g.policy device irq → IsRaised g device irq target
reached_by g i device irq None names are e = sym e
reached_by g i device irq (Some t) names are e =
    let named : reached i t ≡ record { subject = subject_name_at g t.subject; vector = Some t.vector } =
    ap (λ n. record { subject = n; vector = Some t.vector }) (name_same g i t.subject names) in
    record { is = are t refl; granted = sym e ∙ ap (λ t. Some t) named }

-- a target is one of so many subjects
reached_within : (subjects : ℕ) (target : Option IrqTarget) (t : IrqTarget) → IsReached subjects target → target ≡ Some t → t.subject < subjects
reached_within subjects None t h e = cc
reached_within subjects (Some x) t h e = let same : x ≡ t = cc in subst (λ x. x.subject < subjects) same h.0

-- the interrupts of an image that is sound reach whom the policy grants them
has_targets : (g : Ground) (i : Image) → KeepsConditions i → AllZip (IsDeviceOf g.policy i) g.policy.devices i.devices → HaveNames g i → AreSubjects g i → HasTargets g i
has_targets g i keeps devices names are device irq d q found found_irq =
    let x = beside (IsDeviceOf g.policy i) (λ d. bytes_eq d.name device) g.policy.devices i.devices d devices found in
    let is = x.related in
    let Q : Irq → IrqPart → Type 0 = λ a b. IsIrqOf g.policy x.other a b × (b.name ≡ a.name) in
    let irqs : AllZip Q x.other.irqs d.irqs =
    both_mapped (IsIrqOf g.policy x.other) (λ a. a.name) (λ b. b.name) x.other.irqs d.irqs is.irqs (ap irqs_of is.may) in
    let y = beside Q (λ q. bytes_eq q.name irq) x.other.irqs d.irqs q irqs found_irq in
    let device_name : x.other.name ≡ device = sym (ap name_of is.may) ∙ same_names d.name device x.passes in
    let irq_name : y.other.name ≡ irq = sym y.related.1 ∙ same_names q.name irq y.passes in
    let of_device = all_in (IsDevicePart i) i.devices keeps.devices d (find_in (λ d. bytes_eq d.name device) i.devices d found).0 in
    let of_irq = all_in (IsIrqPart i.header.subjects) d.irqs of_device.irqs q (find_in (λ q. bytes_eq q.name irq) d.irqs q found_irq).0 in
    let count = keeps.counts.subjects in
    reached_by g i device irq q.target names
    (λ t e. let within = reached_within i.header.subjects q.target t of_irq.reached e in are t.subject (omega (arith, within, count)))
    (reached_by_name g.policy i names q.target (irq_of g.policy x.other.name y.other.name) y.related.0 ∙ ap₂ (irq_of g.policy) device_name irq_name)

-- .. as the machine of a policy has them
pub targets_of : (p : Source) (i : Image) → KeepsConditions i → AllZip (IsDeviceOf p i) p.devices i.devices → HaveNames (ground_of p i) i → AreSubjects (ground_of p i) i
    → HasTargets (ground_of p i) i
unfolding ground_of
targets_of p i keeps devices names are = has_targets (ground_of p i) i keeps devices names are
