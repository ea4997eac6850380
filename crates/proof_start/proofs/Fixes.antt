-- What holds of a policy and a sound image for it as long as the machine runs.
use Rattle.std.proofs.Common.{◌≡◌, ◌⊎◌, ℕ, zero, suc, ◌*◌, ◌/◌, ◌<◌, ◌≤◌, Option, Some, None, List, [], ◌∷◌, length, refl, sym, ap, ◌∙◌, subst, inl, inr, arith}
use Rattle.std.specs.Prelude.{is_some, option_map, option_and_then, slice_get, slice_index_or}
use Rattle.std.specs.List.{All}
use Rattle.std.proofs.lemmas.Bool.{cases_lt}
use Rattle.image_pack.specs.ImageConditions.{IsEvent, IsSubjectPart as KeepsSubject, KeepsConditions}
use Rattle.image_pack.specs.declared.parts.EventPart.{EventPart}
use Rattle.image_pack.specs.declared.parts.Image.{Image}
use Rattle.image_pack.specs.declared.parts.SubjectPart.{SubjectPart}
use Rattle.image_load.specs.Loaded.{control_of}
use Rattle.image_soundness.proofs.NamesOfTargets.{raised_by_name}
use Rattle.image_soundness.proofs.SoundFacts.{names_of, subjects_of}
use Rattle.image_soundness.specs.Named.{raised, subject_name}
use Rattle.image_soundness.specs.Sound.{IsSound, IsSubjectOf}
use Rattle.image_soundness.specs.Targets.{entry_event, event_index}
use Rattle.proof_turns.specs.Kernel.{entry}
use Rattle.muen_num.specs.declared.access.AccessKind.{AccessKind}
use Rattle.muen_num.specs.declared.limits.TheConstants.{MOST_CALLS}
use Rattle.muen_num.proofs.Options.{is_some-option_map, one_value}
use Rattle.muen_num.proofs.Lists.{all_at, some_below}
use Rattle.muen_num.proofs.Pairs.{first_at, other_at}
use Rattle.policy_lawful.specs.Contents.{Held, initial_bytes}
use Rattle.policy_lawful.specs.Events.{Raised, event_of}
use Rattle.policy_lawful.specs.Thing.{Thing, region, state}
use Rattle.policy_lawful.specs.Windows.{access_of, byte, windows_of}
use Rattle.policy_lawful.specs.source.Source.{Source}
use Rattle.policy_lawful.specs.source.SourceWay.TheVariants.{Call, Trap}
use Rattle.policy_lawful.specs.source.Subject.{Subject}
use Rattle.policy_lawful.specs.source.Tau0.{Tau0}
use Rattle.vmx_machine.specs.declared.control.Control.{Control}
use Rattle.proof_turns.specs.Ground.{Ground, IsSubject, Joined, subject_name_at, raised_of}
use Rattle.proof_turns.specs.Fixed.{IsFixed, Sees, Watches}
use Rattle.proof_start.specs.GroundOf.{ground_of}
use Rattle.proof_start.proofs.Aligned.{bitmaps_alike, walks_alike}
use Rattle.proof_start.proofs.EventFacts.{few_calls, few_traps, traps_are_events}
use Rattle.proof_start.proofs.MsrFacts.{in_msr_file}
use Rattle.proof_start.proofs.PageFacts.{io_kept, msrbm_kept, second_io_kept, tables_kept}
use Rattle.proof_start.proofs.StateFacts.{no_thing, state_pages}
use Rattle.proof_start.proofs.PlanFacts.{no_slots, tau0_bytes, tau0_region}
use Rattle.subject_model.proofs.PolicyFacts.{found_again, names_differ}
use Rattle.proof_start.proofs.RegionFacts.{same_tau0_page}
use Rattle.proof_start.proofs.Slots.{majors, planned, same_cpus, slots}
use Rattle.proof_start.proofs.SpansOfThings.{listed_pages}
use Rattle.proof_start.proofs.SpotFacts.{apart, aside}
use Rattle.proof_start.proofs.StartSets.{name_by}
use Rattle.proof_start.proofs.SubjectFacts.{Controlled, control_at, controlled}
use Rattle.image_memory.proofs.SubjectSpans.{subject_kept}
use Rattle.proof_start.proofs.WindowFacts.{IsByteOf, IsSeen, IsWatched, sees}

-- ---- entries of a table

past_none : {X : Type 0} (xs : List X) (n : ℕ) → length xs ≤ n → slice_get xs n ≡ None
past_none [] n h = refl
past_none (x ∷ xs) zero h = absurd (omega (arith, h))
past_none (x ∷ xs) (suc n) h = past_none xs n (omega (arith, h))

entry_is : (events : List (Option EventPart)) (n : ℕ) → entry events n ≡ slice_index_or events n None
entry_is [] n = refl
entry_is (e ∷ es) zero = refl
entry_is (e ∷ es) (suc n) = entry_is es n

event_below : {m : ℕ} (events : List (Option EventPart)) (k : ℕ) (e : EventPart) → All (IsEvent m) events → entry events k ≡ Some e → e.target < m
event_below {m = m} events k e all h = by_there (slice_get events k) refl h
  where
    by_there : (o : Option (Option EventPart)) → slice_get events k ≡ o → option_and_then (λ x. x) o ≡ Some e → e.target < m
    by_there None at f = absurd (cc (f))
    by_there (Some None) at f = absurd (cc (f))
    by_there (Some (Some x)) at f = let same : x ≡ e = cc (f) in subst (λ (y : EventPart). y.target < m) same (all_at (IsEvent m) events k (Some x) all at).0

module _ (p : Source) (files : Held) (i : Image) (keeps : KeepsConditions i) (sound : IsSound p files i) where
  abbrev g : Ground
  g = ground_of p i

  -- a number names the same subject in both
  same_name : (t : ℕ) → subject_name i t ≡ subject_name_at g t
  unfolding ground_of
  same_name t = ap (λ ns. slice_index_or ns t []) (names_of p files i sound) ∙ name_by p.subjects t

  -- what is raised by the target's index is raised by its name
  by_name : (o : Option EventPart) (r : Option Raised) → option_map entry_event o ≡ option_map (event_index p) r → option_map (raised i) o ≡ r
  by_name o r h = raised_by_name p i (names_of p files i sound) o r h

  raised_same : (e : EventPart) → raised_of g e ≡ raised i e
  raised_same e = ap (λ name. record { mode = e.mode; target = record { subject = name; vector = e.vector } }) (sym (same_name e.target))

  all_raised : (o : Option EventPart) → option_map (raised_of g) o ≡ option_map (raised i) o
  all_raised None = refl
  all_raised (Some e) = ap Some (raised_same e)

  event_at : (events : List (Option EventPart)) (k : ℕ) → length events ≡ MOST_CALLS → (o : Option Raised) → (k < MOST_CALLS → option_map (raised i) (slice_index_or events k None) ≡ o) → (MOST_CALLS ≤ k → o ≡ None) → option_map (raised_of g) (entry events k) ≡ o
  event_at events k many o low high =
      elim (cases_lt k MOST_CALLS) [
        | inl l ↦ all_raised (entry events k) ∙ (ap (option_map (raised i)) (entry_is events k) ∙ low l)
        | inr h ↦ ap (λ e. option_map (raised_of g) (option_and_then (λ x. x) e)) (past_none events k (omega (arith, many, h))) ∙ sym (high h)
      ]

  -- ---- a subject in both
  module _ (s : ℕ) (n : Subject) (q : SubjectPart) (at : slice_get p.subjects s ≡ Some n) (there : slice_get i.subjects s ≡ Some q) (is : IsSubjectOf p n q) where
    kept : (m : ℕ) × KeepsSubject i (m, q)
    kept = subject_kept i keeps s q there

    control : slice_get g.setup.controls s ≡ Some (control_of i.spans q)
    control = control_at p i s q there

    its_traps : (k : ℕ) → option_map (raised_of g) (entry q.traps k) ≡ event_of p n (Trap k)
    its_traps k = event_at q.traps k kept.1.traps.many (event_of p n (Trap k)) (λ l. by_name (slice_index_or q.traps k None) (event_of p n (Trap k)) (is.traps k l)) (λ h. few_traps p sound.lawful s n k at h)

    joined_at : Joined g s n q (control_of i.spans q)
    unfolding ground_of
    joined_at = record {
      subject = at;
      part = there;
      control = control;
      found = found_again p sound.lawful s n at;
      name = is.name;
      cpu = is.cpu;
      in_group = is.in_group;
      calls = λ k. event_at q.calls k kept.1.calls.many (event_of p n (Call k)) (λ l. by_name (slice_index_or q.calls k None) (event_of p n (Call k)) (is.calls k l)) (λ h. few_calls p sound.lawful s n k at h);
      traps = its_traps;
      trapped = λ k. sym (is_some-option_map (raised_of g) (entry q.traps k)) ∙ (ap is_some (its_traps k) ∙ traps_are_events p sound.lawful s n k at);
      ports = (bitmaps_alike p files i keeps sound n q (control_of i.spans q) s at there control).0;
      msrs = (bitmaps_alike p files i keeps sound n q (control_of i.spans q) s at there control).1;
      walks = λ kind addr low. walks_alike p files i keeps sound n q kind addr low s at there;
    }

    is_subject : IsSubject g s
    is_subject = record { subject = n; part = q; control = control_of i.spans q; joined = joined_at }

  by_subject : (s : ℕ) (n : Subject) → slice_get p.subjects s ≡ Some n → IsSubject g s
  by_subject s n at = let o = other_at (IsSubjectOf p) p.subjects i.subjects s n (subjects_of p files i sound) at in is_subject s n o.0 at o.1 o.2

  by_part : (s : ℕ) (q : SubjectPart) → slice_get i.subjects s ≡ Some q → IsSubject g s
  by_part s q at = let o = first_at (IsSubjectOf p) p.subjects i.subjects s q (subjects_of p files i sound) at in is_subject s o.0 q o.1 at o.2

  by_control : (s : ℕ) (c : Control) → slice_get g.setup.controls s ≡ Some c → IsSubject g s
  by_control s c at = let o : Controlled i s c = controlled p i s c at in by_part s o.part o.here

  -- a number below that of the subjects is one's
  by_number : (t : ℕ) → t < i.header.subjects → IsSubject g t
  by_number t h = by_there (slice_get i.subjects t) refl
    where
      by_there : (o : Option SubjectPart) → slice_get i.subjects t ≡ o → IsSubject g t
      by_there (Some q) e = by_part t q e
      by_there None e = absurd (some_below i.subjects t (omega (arith, h, keeps.counts.subjects)) e)

  target_there : (s k : ℕ) (q : SubjectPart) (events : List (Option EventPart)) (e : EventPart) → All (IsEvent i.header.subjects) events → entry events k ≡ Some e → IsSubject g e.target
  target_there s k q events e all h = by_number e.target (event_below events k e all h)

  -- ---- what a subject reaches
  sees_thing : (x : Thing) (offset : ℕ) → IsByteOf p x offset → offset / 4096 < g.pages x
  sees_thing x offset b =
      let long : 4096 * g.pages x ≡ length (initial_bytes p files x) = listed_pages p files i keeps sound x b.declared in
      let low : offset < length (initial_bytes p files x) = b.within files in
      omega (arith, long, low)

  sees_page : (s : ℕ) (n : Subject) (x : Thing) (offset : ℕ) → IsWatched p s n x offset → Watches g s n x
  unfolding ground_of
  sees_page s n x offset w =
      let is = by_subject w.number w.subject w.at in
      let same : is.subject ≡ w.subject = one_value (slice_get p.subjects w.number) is.subject w.subject is.joined.subject w.at in
      record {
        number = w.number;
        subject = is.subject;
        part = is.part;
        control = is.control;
        joined = is.joined;
        page = ap (λ (m : Subject). state m.name) same ∙ w.page;
        cpu = ap (λ (m : Subject). m.cpu) same ∙ w.cpu;
        other = w.other;
      }

  sees_there : (s : ℕ) (n : Subject) (x : Thing) (offset : ℕ) → IsByteOf p x offset ⊎ IsWatched p s n x offset → (offset / 4096 < g.pages x) ⊎ ((offset < 4096) × Watches g s n x)
  sees_there s n x offset (inl b) = inl (sees_thing x offset b)
  sees_there s n x offset (inr w) = inr (w.within, sees_page s n x offset w)

  all_seen : (s : ℕ) (n : Subject) (kind : AccessKind) (addr : ℕ) (x : Thing) (offset : ℕ) → slice_get p.subjects s ≡ Some n → access_of (windows_of p n) addr kind ≡ byte x offset → Sees g s n addr x offset
  unfolding ground_of
  all_seen s n kind addr x offset at e =
      let seen : IsSeen p s n addr x offset = sees p sound.lawful s n kind addr x offset at e in
      record { there = sees_there s n x offset seen.there; shown = seen.shown; aligned = seen.aligned }

  tau0_page : (t : Tau0) → p.scheduling.tau0 ≡ Some t → 0 < g.pages (region t.region)
  tau0_page t e =
      let long : 4096 * g.pages (region t.region) ≡ length (initial_bytes p files (region t.region)) = listed_pages p files i keeps sound (region t.region) (tau0_region p sound.lawful t e) in
      let some : 0 < length (initial_bytes p files (region t.region)) = tau0_bytes p sound.lawful files t e in
      omega (arith, long, some)

  cpu_below : (s : ℕ) (q : SubjectPart) → slice_get i.subjects s ≡ Some q → q.cpu < p.processor.logical_cpus
  cpu_below s q at = let k = subject_kept i keeps s q at in subst (λ m. q.cpu < m) (same_cpus p files i sound) k.1.cpu

  -- **what holds as long as the machine runs**
  pub fixed_of : IsFixed g
  unfolding ground_of
  fixed_of = record {
    joined = by_subject;
    parts = by_part;
    controls = by_control;
    names = names_differ p sound.lawful;
    call_targets = λ s k q e at h. let o = subject_kept i keeps s q at in target_there s k q q.calls e o.1.calls.each h;
    trap_targets = λ s k q e at h. let o = subject_kept i keeps s q at in target_there s k q q.traps e o.1.traps.each h;
    cpus = cpu_below;
    slots = slots p files i sound;
    no_slots = no_slots p sound.lawful;
    planned = planned p files i keeps sound;
    majors = majors p files i sound;
    tau0 = same_tau0_page p files i keeps sound;
    tau0_there = tau0_page;
    apart = apart p files i keeps sound;
    aside = aside p files i keeps sound;
    tables = tables_kept p files i keeps sound;
    io_bitmap = io_kept p i keeps;
    second_io_bitmap = second_io_kept p i keeps;
    msr_bitmap = msrbm_kept p i keeps;
    state_pages = state_pages p files i keeps sound (names_differ p sound.lawful);
    no_thing = no_thing p files i keeps sound;
    sees = all_seen;
    in_file = in_msr_file p sound.lawful;
  }
