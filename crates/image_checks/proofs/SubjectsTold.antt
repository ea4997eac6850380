-- A subject agrees with what the policy has at its index just where it is that of the policy.
use Rattle.std.proofs.Common.{◌≡◌, ◌∙◌, refl, sym, ap, ap₂, subst, get_or, arith, ℕ, ◌+◌, ◌<◌, Bool, List, [], ◌∷◌, length, map, Option, Some, None}
use Rattle.std.specs.Prelude.{◌==◌, option_map, position, slice_get, slice_index_or}
use Rattle.std.specs.List.{All, AllZip, enumerate_from, zip, position_or_len}
use Rattle.std.specs.Str.{bytes_eq}
use Rattle.std.proofs.lemmas.List.{get_or-map, get_or_default, length-map}
use Rattle.std.proofs.lemmas.List.Elements.{All-cons, All-head, All-nil, All-tail}
use Rattle.std.proofs.lemmas.Slice.Zip.{get_or-zip}
use Rattle.std.proofs.lemmas.Option.{get_or_from_slice_get, same_Some}
use Rattle.event_emit.specs.Tables.{AreTables}
use Rattle.image_soundness.proofs.GroupsByIndex.{group_with, in_group}
use Rattle.image_soundness.specs.TablesOf.{IsEntry, IsTable, irq_named, part_raised}
use Rattle.image_pack.specs.ImageConditions.{IsReached, IsSubjectPart}
use Rattle.event_emit.specs.declared.event_tables.EventTables.{EventTables}
use Rattle.expand_kernel.specs.Grants.{target_named}
use Rattle.image_checks.proofs.Places.{at_place, holds_there, many_pairs, same_places}
use Rattle.image_checks.proofs.Decided.{decided}
use Rattle.image_checks.specs.Agreement.{IsFull, SubjectAgrees, subjects_of_both}
use Rattle.image_checks.specs.Firsts.{Decides, HoldsAt}
use Rattle.image_soundness.specs.Sound.{IsSubjectOf}
use Rattle.image_soundness.specs.Targets.{IndexedEvent, IndexedTarget, at_index, entry_event, event_index, irq_target, subject_index, target_index}
use Rattle.image_pack.proofs.PartsKeep.{parts_keep}
use Rattle.image_pack.specs.Parts.{IsParts}
use Rattle.image_pack.specs.declared.parts.EventPart.{EventPart}
use Rattle.image_pack.specs.declared.parts.Image.{Image}
use Rattle.image_pack.specs.declared.parts.SubjectPart.{SubjectPart}
use Rattle.muen_num.specs.declared.devices.IrqTarget.{IrqTarget}
use Rattle.muen_num.proofs.Lists.{position-map, there}
use Rattle.muen_num.proofs.Lookups.{position_there}
use Rattle.muen_num.specs.declared.limits.TheConstants.{MOST_CALLS}
use Rattle.policy_lawful.proofs.Indexes.{position_is}
use Rattle.policy_lawful.proofs.SourceElements.{many_subjects}
use Rattle.policy_lawful.proofs.UniqueNames.{subject_names, subjects_unique}
use Rattle.policy_lawful.specs.Events.{event_of}
use Rattle.policy_lawful.specs.Lawful.{IsLawful}
use Rattle.policy_lawful.specs.Resolution.{IsResolved, Resolution, name_at, source_of, subject_named}
use Rattle.policy_lawful.specs.declared.resolved.Subject.{Subject}
use Rattle.policy_lawful.specs.source.SourceWay.{SourceWay}
use Rattle.policy_lawful.specs.source.Subject.{Subject as SourceSubject}
use Rattle.policy_lawful.specs.source.SourceWay.TheVariants.{Call, Trap}

module _ (r : Resolution) (resolved : IsResolved r) where
  -- ---- whom events and interrupts reach

  -- the index of a subject, by its name
  index_of_name : (k : ℕ) → k < length r.subjects → subject_index (source_of r) (name_at (subject_names r) k) ≡ Some k
  unfolding source_of
  index_of_name k within =
      let unique = subjects_unique r resolved.names in
      let name = name_at (subject_names r) k in
      let subjects = map (subject_named r) r.subjects in
      let many : length subjects ≡ length r.subjects = length-map r.subjects (subject_named r) in
      let names : length (subject_names r) ≡ length r.subjects = length-map r.subjects (λ s. s.name) in
      let at : position_or_len (λ s. bytes_eq s.name name) subjects ≡ k =
      position-map (λ s. bytes_eq s.name name) (subject_named r) r.subjects
      ∙ sym (position-map (λ m. bytes_eq m name) (λ s. s.name) r.subjects)
      ∙ position_is (subject_names r) k unique (omega (arith, names, within)) in
      position_there (λ s. bytes_eq s.name name) subjects (omega (arith, at, many, within)) ∙ ap Some at

  -- the target at an index is that of its name
  same_target : (subject : ℕ) (vector : Option ℕ) → subject < length r.subjects → at_index subject vector ≡ target_index (source_of r) (target_named r subject vector)
  same_target subject vector within =
      let by : Option ℕ → IndexedTarget = λ n. record { subject = n; vector = vector } in
      ap by (sym (index_of_name subject within))

  same_event : (o : Option EventPart) → IsEntry (length r.subjects) o → option_map entry_event o ≡ option_map (event_index (source_of r)) (option_map (part_raised r) o)
  same_event None is = refl
  same_event (Some e) is =
      let by : IndexedTarget → IndexedEvent = λ t. record { mode = e.mode; target = t } in
      ap (λ t. Some (by t)) (same_target e.target e.vector is.0)

  pub same_reached : (o : Option IrqTarget) → IsReached (length r.subjects) o → option_map irq_target o ≡ option_map (target_index (source_of r)) (option_map (irq_named r) o)
  same_reached None is = refl
  same_reached (Some t) is = ap Some (same_target t.subject (Some t.vector) is.0)

  -- what a table has at a number is the policy's event
  events_are : (s : Subject) (way : ℕ → SourceWay) (table : List (Option EventPart)) → IsTable r s way table → (n : ℕ) → n < MOST_CALLS
      → option_map entry_event (slice_index_or table n None) ≡ option_map (event_index (source_of r)) (event_of (source_of r) (subject_named r s) (way n))
  events_are s way table is n l =
      let many = is.many in
      same_event (slice_index_or table n None) (is.entries n None (omega (arith, many, l))) ∙ ap (option_map (event_index (source_of r))) (is.raises n l)

-- ---- different entries raise different events

one_event : (a b : EventPart) → entry_event a ≡ entry_event b → a ≡ b
one_event a b e =
    let mode : a.mode ≡ b.mode = ap (λ (x : IndexedEvent). x.mode) e in
    let target : a.target ≡ b.target = same_Some a.target b.target (ap (λ (x : IndexedEvent). x.target.subject) e) in
    let vector : a.vector ≡ b.vector = ap (λ (x : IndexedEvent). x.target.vector) e in
    (λ t. record { mode = mode t; target = target t; vector = vector t })

one_entry : (a b : Option EventPart) → option_map entry_event a ≡ option_map entry_event b → a ≡ b
one_entry None None e = refl
one_entry None (Some b) e = absurd (cc (e))
one_entry (Some a) None e = absurd (cc (e))
one_entry (Some a) (Some b) e = ap Some (one_event a b (same_Some (entry_event a) (entry_event b) e))

one_irq : (a b : IrqTarget) → irq_target a ≡ irq_target b → a ≡ b
one_irq a b e =
    let subject : a.subject ≡ b.subject = same_Some a.subject b.subject (ap (λ (x : IndexedTarget). x.subject) e) in
    let vector : a.vector ≡ b.vector = same_Some a.vector b.vector (ap (λ (x : IndexedTarget). x.vector) e) in
    (λ t. record { subject = subject t; vector = vector t })

pub one_target : (a b : Option IrqTarget) → option_map irq_target a ≡ option_map irq_target b → a ≡ b
one_target None None e = refl
one_target None (Some b) e = absurd (cc (e))
one_target (Some a) None e = absurd (cc (e))
one_target (Some a) (Some b) e = ap Some (one_irq a b (same_Some (irq_target a) (irq_target b) e))

-- two tables that raise the same at each number
one_table : (a b : List (Option EventPart)) → length a ≡ MOST_CALLS → length b ≡ MOST_CALLS
    → ((n : ℕ) → n < MOST_CALLS → option_map entry_event (slice_index_or a n None) ≡ option_map entry_event (slice_index_or b n None)) → a ≡ b
one_table a b l m h =
    same_places a b (omega (arith, l, m)) (λ n d k.
    let low : n < MOST_CALLS = omega (arith, k, l) in
    get_or_default a n d None k ∙ one_entry (slice_index_or a n None) (slice_index_or b n None) (h n low) ∙ get_or_default b n None d (omega (arith, k, l, m)))

-- ---- subjects

module _ (r : Resolution) (resolved : IsResolved r) (lawful : IsLawful (source_of r)) (k : ℕ) (s : Subject) (t : EventTables) (q : SubjectPart) (at : slice_get r.subjects k ≡ Some s) (are : AreTables r s t) where
  -- **a subject that agrees** is that of the policy
  pub subject_is : SubjectAgrees s (group_with r k) t q → IsSubjectOf (source_of r) (subject_named r s) q
  subject_is h = record {
    name = h.name;
    cpu = h.cpu;
    in_group = (in_group r resolved lawful k s at).0 ∙ h.group;
    calls = λ n l. ap (λ (table : List (Option EventPart)). option_map entry_event (slice_index_or table n None)) h.calls ∙ events_are r resolved s Call t.calls are.calls n l;
    traps = λ n l. ap (λ (table : List (Option EventPart)). option_map entry_event (slice_index_or table n None)) h.traps ∙ events_are r resolved s Trap t.traps are.traps n l;
  }

  -- and the other way round, where it has an entry for each call and trap
  pub subject_agrees : IsFull q → IsSubjectOf (source_of r) (subject_named r s) q → SubjectAgrees s (group_with r k) t q
  subject_agrees full h = record {
    name = h.name;
    cpu = h.cpu;
    group = sym (in_group r resolved lawful k s at).0 ∙ h.in_group;
    calls = one_table q.calls t.calls full.calls are.calls.many (λ n l. h.calls n l ∙ sym (events_are r resolved s Call t.calls are.calls n l));
    traps = one_table q.traps t.traps full.traps are.traps.many (λ n l. h.traps n l ∙ sym (events_are r resolved s Trap t.traps are.traps n l));
  }

-- ---- subjects by index

-- each subject of an image has an entry for each call and trap
full_from : (i : Image) (n : ℕ) (qs : List SubjectPart) → All (IsSubjectPart i) (enumerate_from n qs) → All IsFull qs
full_from i n [] h = All-nil IsFull
full_from i n (q ∷ qs) h =
    let here = All-head (IsSubjectPart i) (n, q) (enumerate_from (n + 1) qs) h in
    All-cons IsFull q qs (record { calls = here.calls.many; traps = here.traps.many }) (full_from i (n + 1) qs (All-tail (IsSubjectPart i) (n, q) (enumerate_from (n + 1) qs) h))

pub are_full : (i : Image) → IsParts i → All IsFull i.subjects
are_full i h = full_from i 0 i.subjects (parts_keep i h).subjects

-- as many pairs as subjects
pub many_both : (r : Resolution) (parts : List SubjectPart) → length parts ≡ length r.subjects → length (subjects_of_both r parts) ≡ length parts
many_both r parts many = let e = many_subjects r in many_pairs (source_of r).subjects parts (omega (arith, e, many))

-- the subject at an index, where the tables stand at their indexes
pub subject_told : (r : Resolution) → IsResolved r → IsLawful (source_of r) → (tables : List EventTables) (parts : List SubjectPart) → AllZip (AreTables r) r.subjects tables
    → length parts ≡ length r.subjects → All IsFull parts → (k : ℕ) → k < length parts
    → (s : Subject) (t : EventTables) (q : SubjectPart) → s ≡ get_or r.subjects k s → t ≡ get_or tables k t → q ≡ get_or parts k q
    → (b : Bool) → Decides (SubjectAgrees s (group_with r k) t q) b → Decides (HoldsAt (λ e. IsSubjectOf (source_of r) e.0 e.1) (subjects_of_both r parts) k) b
unfolding source_of
subject_told r resolved lawful tables parts are many full k low s t q at_s at_t at_q b d =
    let l : k < length r.subjects = omega (arith, low, many) in
    let found = there r.subjects k l in
    let same : s ≡ found.0 = at_s ∙ get_or_from_slice_get r.subjects k found.0 s found.1 in
    let at : slice_get r.subjects k ≡ Some s = found.1 ∙ ap Some (sym same) in
    let here : AreTables r s t = subst (λ x. AreTables r x t) (sym at_s) (subst (AreTables r (get_or r.subjects k s)) (sym at_t) (at_place (AreTables r) r.subjects tables are k l s t)) in
    let all : IsFull q = subst IsFull (sym at_q) (full k q low) in
    let Holds : SourceSubject × SubjectPart → Type 0 = λ e. IsSubjectOf (source_of r) e.0 e.1 in
    let pairs = zip (map (subject_named r) r.subjects) parts in
    let n : length (map (subject_named r) r.subjects) ≡ length r.subjects = length-map r.subjects (subject_named r) in
    let in_pairs : length pairs ≡ length parts = many_pairs (map (subject_named r) r.subjects) parts (omega (arith, n, many)) in
    let left : get_or (map (subject_named r) r.subjects) k (subject_named r s) ≡ subject_named r s =
    get_or-map (subject_named r) r.subjects k s (subject_named r s) l ∙ ap (subject_named r) (sym at_s) in
    let pair : get_or pairs k (subject_named r s, q) ≡ (subject_named r s, q) =
    get_or-zip (map (subject_named r) r.subjects) parts k (subject_named r s, q) (omega (arith, n, l)) low ∙ ap₂ (λ x y. (x, y)) left (sym at_q) in
    decided (SubjectAgrees s (group_with r k) t q) (HoldsAt Holds pairs k) b
    (λ h. holds_there Holds pairs k (subject_named r s, q) (omega (arith, in_pairs, low)) (subst Holds (sym pair) (subject_is r resolved lawful k s t q at here h)))
    (λ h. subject_agrees r resolved lawful k s t q at here all (subst Holds pair (h (subject_named r s, q))))
    d
