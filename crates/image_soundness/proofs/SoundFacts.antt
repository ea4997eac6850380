-- What a sound image has of all its subjects and devices.
use Rattle.std.proofs.Common.{◌≡◌, List, [], ◌∷◌, length, map, refl, ap₂, subst, arith}
use Rattle.std.specs.List.{AllZip}
use Rattle.std.proofs.lemmas.List.{take_all}
use Rattle.image_pack.specs.declared.parts.DevicePart.{DevicePart}
use Rattle.image_pack.specs.declared.parts.Image.{Image}
use Rattle.image_pack.specs.declared.parts.SubjectPart.{SubjectPart}
use Rattle.image_soundness.proofs.SubjectsOfBoth.{of_each}
use Rattle.image_soundness.specs.Bench.{bench_device as device_of, devices_of}
use Rattle.image_soundness.specs.Named.{bench_device, bench_of}
use Rattle.image_soundness.specs.Sound.{ForEachSubject, HasArea, HasBitmaps, HasWalks, IsDeviceOf, IsFresh, IsSound, IsSubjectOf, ReadsTables, ShareNoSpan}
use Rattle.policy_lawful.specs.Contents.{Held}
use Rattle.policy_lawful.specs.source.Device.{Device}
use Rattle.policy_lawful.specs.source.Source.{Source}
use Rattle.policy_lawful.specs.source.Subject.{Subject}

names_are : (p : Source) (ss : List Subject) (qs : List SubjectPart) → AllZip (IsSubjectOf p) ss qs → map (λ (q : SubjectPart). q.name) qs ≡ map (λ (s : Subject). s.name) ss
names_are p [] [] h = refl
names_are p [] (q ∷ qs) h = absurd h
names_are p (s ∷ ss) [] h = absurd h
names_are p (s ∷ ss) (q ∷ qs) h = ap₂ (λ n ns. n ∷ ns) h.0.name (names_are p ss qs h.1)

devices_may : (p : Source) (i : Image) (ds : List Device) (qs : List DevicePart) → AllZip (IsDeviceOf p i) ds qs → map (bench_device i) qs ≡ map device_of ds
devices_may p i [] [] h = refl
devices_may p i [] (q ∷ qs) h = absurd h
devices_may p i (d ∷ ds) [] h = absurd h
devices_may p i (d ∷ ds) (q ∷ qs) h = ap₂ (λ b bs. b ∷ bs) h.0.may (devices_may p i ds qs h.1)

module _ (p : Source) (files : Held) (i : Image) (sound : IsSound p files i) where
  of_subjects : (Holds : Subject → SubjectPart → Type 0) → ForEachSubject p i Holds → AllZip Holds p.subjects i.subjects
  of_subjects Holds h = of_each p i Holds sound.plan_and_events.many h

  -- each subject of the policy and its part of the image, index by index
  pub subjects_of : AllZip (IsSubjectOf p) p.subjects i.subjects
  subjects_of = of_subjects (IsSubjectOf p) sound.plan_and_events.subjects

  pub walks_of : AllZip (HasWalks p i) p.subjects i.subjects
  walks_of = of_subjects (HasWalks p i) sound.walks

  pub tables_of : AllZip (λ s q. ReadsTables i q) p.subjects i.subjects
  tables_of = of_subjects (λ s q. ReadsTables i q) sound.tables

  pub bitmaps_of : AllZip (HasBitmaps p i) p.subjects i.subjects
  bitmaps_of = of_subjects (HasBitmaps p i) sound.bitmaps

  pub areas_of : AllZip (HasArea i) p.subjects i.subjects
  areas_of = of_subjects (HasArea i) sound.msr_areas

  pub states_of : AllZip (IsFresh i) p.subjects i.subjects
  states_of = of_subjects (IsFresh i) sound.fresh_states

  -- no two of all subjects share a span
  pub own_spans_of : ShareNoSpan i.subjects
  own_spans_of = subst ShareNoSpan (take_all (length p.subjects) i.subjects (omega (arith, sound.plan_and_events.many))) sound.own_pages

  -- the subjects have the policy's names
  pub names_of : map (λ (q : SubjectPart). q.name) i.subjects ≡ map (λ (s : Subject). s.name) p.subjects
  names_of = names_are p p.subjects i.subjects subjects_of

  -- a record may name the same of the image as of the policy
  pub bench_is : bench_of i ≡ devices_of p
  unfolding bench_of
  bench_is =
      let cpus = sound.plan_and_events.cpus in
      let devices = devices_may p i p.devices i.devices sound.plan_and_events.devices in
      (λ j. record { cpus = cpus j; devices = devices j })
