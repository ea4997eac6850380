-- No window of a subject reaches a kernel region but the state pages that the policy lets the subject monitor.
use Rattle.std.proofs.Common.{◌≡◌, ◌⊎◌, ◌∙◌, ℕ, ◌+◌, ◌*◌, ◌/◌, ◌%◌, get_or, length, refl, sym, ap, subst, inl, inr, arith}
use Rattle.std.specs.Prelude.{slice_get, Some}
use Rattle.std.specs.List.{zip}
use Rattle.std.proofs.lemmas.Option.{slice_get-get_or}
use Rattle.image_pack.specs.ImageConditions.{KeepsConditions}
use Rattle.image_pack.specs.SpanConditions.{IsSpan}
use Rattle.image_pack.specs.declared.parts.Image.{Image}
use Rattle.image_pack.specs.declared.parts.SubjectPart.{SubjectPart}
use Rattle.image_soundness.proofs.SoundFacts.{subjects_of, walks_of}
use Rattle.image_memory.specs.Memory.{address_at}
use Rattle.image_soundness.specs.Sound.{ForEachSubject, HasWalks, IsSound, IsSubjectOf, address_of, led}
use Rattle.vmx_machine.specs.walk.Walk.TheVariants.{At}
use Rattle.muen_num.specs.declared.access.AccessKind.{AccessKind}
use Rattle.muen_num.proofs.Lists.{all_at}
use Rattle.muen_num.proofs.Pairs.{both_at, other_at, zipped_both}
use Rattle.policy_lawful.specs.Contents.{Held, initial_bytes}
use Rattle.policy_lawful.specs.Thing.{Thing}
use Rattle.policy_lawful.specs.Windows.{Access, access_of, byte, violation, windows_of}
use Rattle.policy_lawful.specs.source.Source.{Source}
use Rattle.policy_lawful.specs.source.Subject.{Subject}
use Rattle.subject_model.proofs.PolicyFacts.{names_differ}
use Rattle.proof_start.specs.GroundOf.{ground_of}
use Rattle.proof_start.specs.Reaching.{IsInMonitored, IsInThing, ReachesNoKernelRegion}
use Rattle.proof_start.proofs.Aligned.{address_aligned}
use Rattle.proof_start.proofs.SpansOfThings.{listed_span}
use Rattle.proof_start.proofs.StateFacts.{state_at_address}
use Rattle.proof_start.proofs.WindowFacts.{IsByteOf, IsWatched, sees}

same_address : (a b : ℕ) → a / 4096 ≡ b / 4096 → a % 4096 ≡ 0 → b % 4096 ≡ 0 → a ≡ b
same_address a b page x y = omega (arith, page, x, y)

module _ (p : Source) (files : Held) (i : Image) (keeps : KeepsConditions i) (sound : IsSound p files i) where
  -- a byte of a thing lies in the thing's span
  in_thing : (x : Thing) (offset : ℕ) → IsByteOf p x offset → IsInThing i (address_of p i x + offset)
  unfolding ground_of
  in_thing x offset b =
      let t = listed_span p files i keeps sound x b.declared in
      let aligned = (all_at IsSpan i.spans t.within.index t.span.0 keeps.spans.each t.within.span).aligned in
      let address : address_of p i x ≡ t.span.0.address = same_address (address_of p i x) t.span.0.address t.first (address_aligned p i keeps x) aligned in
      let long : length (initial_bytes p files x) ≡ 4096 * t.span.0.pages = sym (ap length t.is.bytes) ∙ t.within.long in
      let within = b.within files in
      record {
        index = t.within.index;
        span = t.span.0;
        here = t.within.span;
        kind = t.not_kernel;
        low = omega (arith, address);
        high = omega (arith, address, long, within);
      }

  -- a byte of a state page that is monitored lies on this page
  in_monitored : (s : ℕ) (n : Subject) (x : Thing) (offset : ℕ) → IsWatched p s n x offset → IsInMonitored p i n (address_of p i x + offset)
  in_monitored s n x offset w =
      let o = other_at (IsSubjectOf p) p.subjects i.subjects w.number w.subject (subjects_of p files i sound) w.at in
      let address : address_of p i x ≡ address_at i o.0.state =
      ap (address_of p i) (sym w.page) ∙ state_at_address p files i keeps sound (names_differ p sound.lawful) w.number w.subject o.0 w.at o.1 in
      let within = w.within in
      record {
        index = w.number;
        subject = w.subject;
        part = o.0;
        named = w.at;
        here = o.1;
        monitored = w.monitored;
        low = omega (arith, address);
        high = omega (arith, address, within);
      }

  by_either : (s : ℕ) (n : Subject) (x : Thing) (offset address : ℕ) → address_of p i x + offset ≡ address → IsByteOf p x offset ⊎ IsWatched p s n x offset → IsInThing i address ⊎ IsInMonitored p i n address
  by_either s n x offset address is (inl b) = inl (subst (IsInThing i) is (in_thing x offset b))
  by_either s n x offset address is (inr w) = inr (subst (IsInMonitored p i n) is (in_monitored s n x offset w))

  by_access : (s : ℕ) (n : Subject) (addr address : ℕ) (kind : AccessKind) → slice_get p.subjects s ≡ Some n → (a : Access Thing) → access_of (windows_of p n) addr kind ≡ a → led (address_of p i) a ≡ At address
      → IsInThing i address ⊎ IsInMonitored p i n address
  by_access s n addr address kind at (byte x offset) is leads =
      let same : address_of p i x + offset ≡ address = cc (leads) in
      by_either s n x offset address same (sees p sound.lawful s n kind addr x offset at is).there
  by_access s n addr address kind at (violation found) is leads = absurd (cc (leads))

  of_subject : (s : ℕ) (n : Subject) (q : SubjectPart) → slice_get p.subjects s ≡ Some n → slice_get i.subjects s ≡ Some q → ReachesNoKernelRegion p i n q
  of_subject s n q at here addr address kind low leads =
      let walks = both_at (HasWalks p i) p.subjects i.subjects s n q (walks_of p files i sound) at here in
      by_access s n addr address kind at (access_of (windows_of p n) addr kind) refl (sym (walks addr kind low) ∙ leads)

  -- **no window reaches a kernel region** but the state pages that may be monitored
  pub none_reached : ForEachSubject p i (ReachesNoKernelRegion p i)
  none_reached k d l =
      let e = get_or (zip p.subjects i.subjects) k d in
      let both = zipped_both p.subjects i.subjects k e (slice_get-get_or (zip p.subjects i.subjects) k d l) in
      of_subject k e.0 e.1 both.0 both.1
