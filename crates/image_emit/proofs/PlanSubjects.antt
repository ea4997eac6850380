-- The subjects of the image that is made are the policy's.
use Rattle.std.proofs.Common.{◌≡◌, ◌∙◌, refl, sym, ap, arith, ℕ, suc, ◌+◌, ◌<◌, List, [], ◌∷◌, length, map, Option, Some, None}
use Rattle.std.specs.Prelude.{option_map, slice_get, slice_index_or, unwrap_or}
use Rattle.std.specs.List.{AllZip, enumerate_from, position_or_len, zip}
use Rattle.std.specs.Str.{bytes_eq}
use Rattle.std.proofs.lemmas.List.{length-map}
use Rattle.std.proofs.lemmas.Slice.Zip.{AllZip-long}
use Rattle.event_emit.specs.Tables.{AreTables}
use Rattle.image_soundness.proofs.GroupsByIndex.{in_group as group_by_index}
use Rattle.image_soundness.specs.TablesOf.{IsEntry, IsTable, irq_named, part_raised}
use Rattle.image_pack.specs.ImageConditions.{IsReached}
use Rattle.event_emit.specs.declared.event_tables.EventTables.{EventTables}
use Rattle.expand_kernel.specs.Grants.{AreGrantsOf, target_named}
use Rattle.expand_kernel.specs.granted.Grants.{Grants}
use Rattle.image_emit.specs.Made.{IsMade, Made, group_at, image_of, policy_of, subject_part}
use Rattle.image_soundness.specs.Sound.{IsSubjectOf}
use Rattle.image_soundness.specs.Targets.{IndexedEvent, IndexedTarget, at_index, entry_event, event_index, irq_target, subject_index, target_index}
use Rattle.image_pack.specs.declared.parts.EventPart.{EventPart}
use Rattle.muen_num.specs.declared.devices.IrqTarget.{IrqTarget}
use Rattle.image_pack.specs.declared.parts.SubjectPart.{SubjectPart}
use Rattle.muen_num.proofs.Lists.{position-map}
use Rattle.muen_num.proofs.Lookups.{position_there}
use Rattle.muen_num.specs.declared.limits.TheConstants.{MOST_CALLS}
use Rattle.policy_lawful.proofs.Indexes.{position_is}
use Rattle.policy_lawful.proofs.UniqueNames.{subject_names, subjects_unique}
use Rattle.policy_lawful.specs.Resolution.{Resolution, name_at, source_of, subject_named}
use Rattle.policy_lawful.specs.Rules.{repeated}
use Rattle.policy_lawful.specs.declared.resolved.Subject.{Subject}
use Rattle.policy_lawful.specs.Events.{event_of}
use Rattle.policy_lawful.specs.source.SourceWay.{SourceWay}
use Rattle.policy_lawful.specs.source.SourceWay.TheVariants.{Call, Trap}
use Rattle.region_alloc.specs.Placed.{Placement}
use Rattle.policy_lawful.specs.Frames.{group_of}

-- ---- groups

-- the group of a subject, by name and by index
pub in_group : (m : Made) → IsMade m → (k : ℕ) (s : Subject) → slice_get (policy_of m).subjects k ≡ Some s → group_of (source_of (policy_of m)) s.name ≡ Some (group_at (policy_of m) k)
in_group m h k s at =
    let by_index = group_by_index (policy_of m) h.resolved h.lawful k s at in
    by_index.0 ∙ by_index.1 ∙ ap Some (sym (ap (λ o. unwrap_or o 0) by_index.1))

-- ---- whom events and interrupts reach

names_are : (x : Placement) (from : ℕ) (ss : List Subject) (gs : List Grants) (ts : List EventTables) → length gs ≡ length ss → length ts ≡ length ss
    → map (λ (q : SubjectPart). q.name) (map (subject_part x) (enumerate_from from (zip ss (zip gs ts)))) ≡ map (λ s. s.name) ss
names_are x from [] gs ts a b = refl
names_are x from (s ∷ ss) [] ts a b = absurd (omega (arith, a))
names_are x from (s ∷ ss) (g ∷ gs) [] a b = absurd (omega (arith, b))
names_are x from (s ∷ ss) (g ∷ gs) (t ∷ ts) a b = ap (λ names. s.name ∷ names) (names_are x (from + 1) ss gs ts (omega (arith, a)) (omega (arith, b)))

-- the image's subjects have the policy's names
pub names_in_image : (m : Made) → IsMade m → map (λ s. s.name) (image_of m).subjects ≡ subject_names (policy_of m)
unfolding image_of
names_in_image m h =
    let r = policy_of m in
    names_are m.placed 0 r.subjects m.placed.expanded.grants m.events (AllZip-long (AreGrantsOf r) r.subjects m.placed.expanded.grants h.expansion.grants)
    (AllZip-long (AreTables r) r.subjects m.events h.events)

-- the index of a subject, by its name
index_of_name : (r : Resolution) (k : ℕ) → repeated (subject_names r) ≡ None → k < length r.subjects → subject_index (source_of r) (name_at (subject_names r) k) ≡ Some k
unfolding source_of
index_of_name r k unique within =
    let name = name_at (subject_names r) k in
    let subjects = map (subject_named r) r.subjects in
    let many : length subjects ≡ length r.subjects = length-map r.subjects (subject_named r) in
    let names : length (subject_names r) ≡ length r.subjects = length-map r.subjects (λ s. s.name) in
    let at : position_or_len (λ s. bytes_eq s.name name) subjects ≡ k =
    position-map (λ s. bytes_eq s.name name) (subject_named r) r.subjects
    ∙ sym (position-map (λ m. bytes_eq m name) (λ s. s.name) r.subjects)
    ∙ position_is (subject_names r) k unique (omega (arith, names, within)) in
    position_there (λ s. bytes_eq s.name name) subjects (omega (arith, at, many, within)) ∙ ap Some at

-- the target at an index is that of its name
same_target : (m : Made) → IsMade m → (subject : ℕ) (vector : Option ℕ) → subject < length (policy_of m).subjects → at_index subject vector ≡ target_index (source_of (policy_of m)) (target_named (policy_of m) subject vector)
same_target m h subject vector within =
    let by : Option ℕ → IndexedTarget = λ n. record { subject = n; vector = vector } in
    ap by (sym (index_of_name (policy_of m) subject (subjects_unique (policy_of m) h.resolved.names) within))

same_event : (m : Made) → IsMade m → (o : Option EventPart) → IsEntry (length (policy_of m).subjects) o
    → option_map entry_event o ≡ option_map (event_index (source_of (policy_of m))) (option_map (part_raised (policy_of m)) o)
same_event m h None is = refl
same_event m h (Some e) is =
    let by : IndexedTarget → IndexedEvent = λ t. record { mode = e.mode; target = t } in
    ap (λ t. Some (by t)) (same_target m h e.target e.vector is.0)

pub same_reached : (m : Made) → IsMade m → (o : Option IrqTarget) → IsReached (length (policy_of m).subjects) o
    → option_map irq_target o ≡ option_map (target_index (source_of (policy_of m))) (option_map (irq_named (policy_of m)) o)
same_reached m h None is = refl
same_reached m h (Some t) is = ap Some (same_target m h t.subject (Some t.vector) is.0)

-- ---- subjects

module _ (m : Made) (h : IsMade m) where
  -- what a table has at a number is the policy's event
  events_are : (s : Subject) (way : ℕ → SourceWay) (table : List (Option EventPart)) → IsTable (policy_of m) s way table → (n : ℕ) → n < MOST_CALLS
      → option_map entry_event (slice_index_or table n None) ≡ option_map (event_index (source_of (policy_of m))) (event_of (source_of (policy_of m)) (subject_named (policy_of m) s) (way n))
  events_are s way table is n l =
      let many = is.many in
      same_event m h (slice_index_or table n None) (is.entries n None (omega (arith, many, l))) ∙ ap (option_map (event_index (source_of (policy_of m)))) (is.raises n l)

  is_subject : (k : ℕ) (s : Subject) (g : Grants) (t : EventTables) → slice_get (policy_of m).subjects k ≡ Some s → AreTables (policy_of m) s t
      → IsSubjectOf (source_of (policy_of m)) (subject_named (policy_of m) s) (subject_part m.placed (k, (s, (g, t))))
  is_subject k s g t at are = record {
    name = refl;
    cpu = refl;
    in_group = in_group m h k s at;
    calls = events_are s Call t.calls are.calls;
    traps = events_are s Trap t.traps are.traps;
  }

  each_subject : (from : ℕ) (ss : List Subject) (gs : List Grants) (ts : List EventTables) → length gs ≡ length ss → AllZip (AreTables (policy_of m)) ss ts
      → ((k : ℕ) (s : Subject) → slice_get ss k ≡ Some s → slice_get (policy_of m).subjects (from + k) ≡ Some s)
      → AllZip (IsSubjectOf (source_of (policy_of m))) (map (subject_named (policy_of m)) ss) (map (subject_part m.placed) (enumerate_from from (zip ss (zip gs ts))))
  each_subject from [] gs ts a are at = tt
  each_subject from (s ∷ ss) [] ts a are at = absurd (omega (arith, a))
  each_subject from (s ∷ ss) (g ∷ gs) [] a are at = absurd are
  each_subject from (s ∷ ss) (g ∷ gs) (t ∷ ts) a are at =
      let here : from ≡ from + 0 = omega arith in (
        is_subject from s g t (ap (slice_get (policy_of m).subjects) here ∙ at 0 s refl) are.0,
        each_subject (from + 1) ss gs ts (omega (arith, a)) are.1 (λ k x e. let more : from + 1 + k ≡ from + suc k = omega arith in ap (slice_get (policy_of m).subjects) more ∙ at (suc k) x e),
      )

  -- **the subjects** of the image are the policy's
  pub subjects_of_policy : AllZip (IsSubjectOf (source_of (policy_of m))) (source_of (policy_of m)).subjects (image_of m).subjects
  unfolding source_of image_of
  subjects_of_policy =
      let r = policy_of m in
      each_subject 0 r.subjects m.placed.expanded.grants m.events (AllZip-long (AreGrantsOf r) r.subjects m.placed.expanded.grants h.expansion.grants) h.events
      (λ k s e. let n : 0 + k ≡ k = omega arith in ap (slice_get r.subjects) n ∙ e)
