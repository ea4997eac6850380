-- The state page of each subject is that of the state at the start.
use Rattle.std.proofs.Common.{◌≡◌, ℕ, ◌+◌, ◌*◌, List, take, drop, refl, ap, ◌∙◌, subst, arith}
use Rattle.std.proofs.lemmas.List.{take_all}
use Rattle.image_emit.specs.Made.{IsMade, Made, image_of, policy_of}
use Rattle.image_emit.proofs.BySubject.{each_subject}
use Rattle.image_emit.proofs.RegionSizes.{length-page}
use Rattle.image_emit.proofs.SpansOfKernel.{kernel_bytes_at}
use Rattle.image_soundness.specs.Memory.{bytes_at}
use Rattle.image_soundness.specs.Sound.{ForEachSubject, IsFresh}
use Rattle.muen_num.specs.declared.limits.TheConstants.{PAGE}
use Rattle.muen_num.specs.declared.tag.TagPart.TheVariants.{State}
use Rattle.policy_lawful.specs.Resolution.{source_of}
use Rattle.image_soundness.specs.StatePage.{page_bytes}
use Rattle.expand_kernel.specs.ByIndex.{kernel_first}
use Rattle.image_soundness.specs.States.{started}

pub states : (m : Made) → IsMade m → ForEachSubject (source_of (policy_of m)) (image_of m) (IsFresh (image_of m))
states m h =
    each_subject m h (IsFresh (image_of m))
    (λ k s g t q at.
    let first : kernel_first (policy_of m) k + 0 ≡ kernel_first (policy_of m) k = omega arith in
    let held : bytes_at (image_of m) (kernel_first (policy_of m) k) ≡ q.state = subst (λ n. bytes_at (image_of m) n ≡ q.state) first (kernel_bytes_at m h k s g t q at 0 PAGE State q.state refl refl) in
    ap (λ (b : List ℕ). take PAGE (drop (PAGE * 0) b)) (held ∙ at.pages.state)
    ∙ take_all PAGE (page_bytes (started s.entry)) (omega (arith, length-page s.entry)))
