-- The subjects of the image that is made keep the conditions of an image.
use Rattle.std.proofs.Common.{◌≡◌, ◌∙◌, refl, sym, ap, subst, arith, ℕ, ◌+◌, ◌*◌, ◌/◌, ◌%◌, ◌<◌, ◌≤◌, ◌^◌, Bool, true, List, length, Option, Some}
use Rattle.std.specs.Prelude.{◌==◌, ◌&&◌, nat_le, nat_lt, slice_get, slice_index}
use Rattle.std.specs.List.{All, enumerate_from, list_all, zip}
use Rattle.std.proofs.lemmas.Bool.{and_from, eq-eqb, lt-ltb, ltb-true}
use Rattle.ept_emit.specs.Pages.{ept_pages}
use Rattle.ept_emit.specs.Emitted.{eptp_of}
use Rattle.ept_emit.specs.declared.window.GuestRange.{GuestRange}
use Rattle.event_emit.specs.Tables.{AreTables}
use Rattle.event_emit.specs.declared.event_tables.EventTables.{EventTables}
use Rattle.expand_kernel.specs.granted.Grants.{Grants}
use Rattle.expand_kernel.specs.ByIndex.{granted_ranges, kernel_first}
use Rattle.expand_kernel.specs.Regions.{anywhere, kernel_regions}
use Rattle.expand_kernel.specs.thing.Region.{Region}
use Rattle.expand_kernel.specs.thing.RegionKind.TheVariants.{Kernel}
use Rattle.image_emit.proofs.AtIndexes.{mapped_there}
use Rattle.image_emit.proofs.ConditionsOfPlan.{subjects_many}
use Rattle.image_emit.proofs.EventsKept.{table_kept}
use Rattle.image_emit.proofs.GroupsKept.{first_here, group_there}
use Rattle.image_emit.proofs.SpansOfKernel.{placed_of}
use Rattle.image_emit.proofs.SpansAt.{region_at, some_span}
use Rattle.image_emit.specs.Made.{IsMade, Made, image_of, policy_of, subject_part, subject_parts}
use Rattle.image_pack.specs.Codes.{part_code}
use Rattle.image_pack.specs.Image.{is_eptp, is_kernel_span}
use Rattle.image_pack.specs.ImageConditions.{AreEvents, IsSubjectPart}
use Rattle.image_pack.specs.declared.parts.EventPart.{EventPart}
use Rattle.image_pack.specs.declared.parts.SubjectPart.{SubjectPart}
use Rattle.muen_num.proofs.Lists.{passes_at, each_numbered, numbered_at}
use Rattle.muen_num.proofs.Pairs.{both_at, other_at, zipped_at, zipped_both}
use Rattle.muen_num.specs.Naming.{is_name}
use Rattle.muen_num.specs.declared.limits.TheConstants.{MOST_MSRS, PAGE, PHYSICAL_END}
use Rattle.muen_num.specs.declared.tag.TagPart.TheVariants.{Iobm, Msrbm, Msrs, State}
use Rattle.msrbm_emit.specs.Area.{msr_count}
use Rattle.policy_lawful.proofs.KeptCpus.{cpus_kept}
use Rattle.policy_lawful.proofs.KeptRules.{rules_of}
use Rattle.policy_lawful.specs.Resolution.{source_of, subject_named}
use Rattle.policy_lawful.specs.declared.resolved.Subject.{Subject}
use Rattle.policy_lawful.specs.source.SourceWay.TheVariants.{Call, Trap}
use Rattle.span_emit.specs.Spans.{region_span}
use Rattle.std.proofs.lemmas.List.Folds.{list_all-map}
use Rattle.subject_emit.proofs.TablesReady.{kernel_at, tables_there}
use Rattle.subject_emit.specs.Pages.{ArePages, tables_at}
use Rattle.subject_emit.specs.declared.subject_pages.SubjectPages.{SubjectPages}

-- ---- numbers

-- tables of one page at least
some_pages : (ws : List GuestRange) → 1 ≤ ept_pages ws
some_pages ws = omega arith

eptp_kept : (at size : ℕ) → at % 4096 ≡ 0 → 4096 ≤ size → at + size ≤ 2 ^ 40 → is_eptp (eptp_of at) ≡ true
eptp_kept at size whole some end =
    let low : eptp_of at % PAGE ≡ 30 = omega (arith, whole) in
    let small : eptp_of at < PHYSICAL_END = omega (arith, some, end) in
    and_from (eptp_of at % PAGE == 30) (nat_lt (eptp_of at) PHYSICAL_END) (eq-eqb (eptp_of at % PAGE) 30 low) (lt-ltb (eptp_of at) PHYSICAL_END small)

module _ (m : Made) (h : IsMade m) where
  -- ---- a subject

  module _ (k : ℕ) (s : Subject) (g : Grants) (t : EventTables) (at : slice_get (policy_of m).subjects k ≡ Some s) (granted : slice_get m.placed.expanded.grants k ≡ Some g) (raised : slice_get m.events k ≡ Some t) where
    -- one of the kernel's regions for the subject
    kernel_span : (j : ℕ) (y : Region) (code pages : ℕ) → slice_get (kernel_regions s.name (ept_pages (granted_ranges g.windows))) j ≡ Some y → part_code y.tag.part ≡ code → nat_le pages (y.size / PAGE) ≡ true
        → is_kernel_span m.spans code pages (kernel_first (policy_of m) k + j) ≡ true
    unfolding is_kernel_span
    kernel_span j y code pages is part size =
        let n = kernel_first (policy_of m) k + j in
        let span = region_span (n, (y, slice_index m.placed.addresses n)) in
        some_span m h (λ s. (s.number == n) && (part_code s.tag.part == code) && nat_le pages s.pages) n span
        (region_at m h n y (kernel_at m.placed (placed_of m h) k j s g y at granted is))
        (and_from ((n == n) && (part_code y.tag.part == code)) (nat_le pages (y.size / PAGE))
        (and_from (n == n) (part_code y.tag.part == code) (eq-eqb n n refl) (eq-eqb (part_code y.tag.part) code part)) size)

    state_span : is_kernel_span m.spans (part_code State) 1 (kernel_first (policy_of m) k) ≡ true
    state_span =
        let n : kernel_first (policy_of m) k + 0 ≡ kernel_first (policy_of m) k = omega arith in
        ap (is_kernel_span m.spans (part_code State) 1) (sym n) ∙ kernel_span 0 (anywhere Kernel s.name State PAGE) (part_code State) 1 refl refl refl

    called : is_name s.name ≡ true
    called = passes_at (λ x. is_name x.name) (policy_of m).subjects k s h.subjects_named at

    on_cpu : s.cpu < (policy_of m).processor.logical_cpus
    unfolding source_of
    on_cpu =
        let r = policy_of m in
        let has : Subject → Bool = λ x. nat_lt x.cpu r.processor.logical_cpus in
        let all : list_all has r.subjects ≡ true =
        sym (list_all-map (λ x. nat_lt x.cpu r.processor.logical_cpus) (subject_named r) r.subjects) ∙ (cpus_kept (source_of r) (rules_of h.lawful).rule_3).subjects in
        ltb-true s.cpu r.processor.logical_cpus (passes_at has r.subjects k s all at)

    few : msr_count g.msrs ≤ MOST_MSRS
    few =
        let both = zip (policy_of m).subjects m.placed.expanded.grants in
        let e : ℕ × (Subject × Grants) = (k, (s, g)) in
        let n : 0 + k ≡ k = omega arith in
        let here : slice_get (enumerate_from 0 both) k ≡ Some e =
        numbered_at 0 both k (s, g) (zipped_at (policy_of m).subjects m.placed.expanded.grants k s g at granted) ∙ ap (λ i. Some (i, (s, g))) n in
        let pages = other_at (λ (e : ℕ × (Subject × Grants)) (q : SubjectPages). ArePages m.placed e.0 e.1.0 e.1.1 q) (enumerate_from 0 both) m.pages k e h.pages here in
        pages.2.few

    pointer : is_eptp (eptp_of (tables_at m.placed k)) ≡ true
    pointer =
        let there = tables_there m.placed (placed_of m h) k g granted in
        let some = some_pages (granted_ranges g.windows) in
        eptp_kept (tables_at m.placed k) (ept_pages (granted_ranges g.windows) * 4096) there.whole (omega (arith, some)) there.end

    events : (table : List (Option EventPart)) → AreEvents (length (policy_of m).subjects) table → AreEvents (length (subject_parts m)) table
    unfolding image_of
    events table are = subst (λ n. AreEvents n table) (sym (subjects_many m h)) are

    tables : AreTables (policy_of m) s t
    tables = both_at (AreTables (policy_of m)) (policy_of m).subjects m.events k s t h.events at raised

    is_subject : IsSubjectPart (image_of m) (k, subject_part m.placed (k, (s, (g, t))))
    unfolding image_of
    is_subject = record {
      cpu = on_cpu;
      in_group = group_there m h k s at;
      first = first_here m h k s at;
      few_msrs = few;
      state = state_span;
      iobm = kernel_span 2 (anywhere Kernel s.name Iobm (2 * PAGE)) (part_code Iobm) 2 refl refl refl;
      msrbm = kernel_span 3 (anywhere Kernel s.name Msrbm PAGE) (part_code Msrbm) 1 refl refl refl;
      area = kernel_span 4 (anywhere Kernel s.name Msrs PAGE) (part_code Msrs) 1 refl refl refl;
      eptp = pointer;
      called = called;
      calls = events t.calls (table_kept (policy_of m) s Call t.calls (rules_of h.lawful).rule_15 tables.calls);
      traps = events t.traps (table_kept (policy_of m) s Trap t.traps (rules_of h.lawful).rule_15 tables.traps);
    }

  -- **the subjects** of the image
  pub subjects_kept : All (IsSubjectPart (image_of m)) (enumerate_from 0 (image_of m).subjects)
  unfolding image_of
  subjects_kept =
      let r = policy_of m in
      let parts = zip r.subjects (zip m.placed.expanded.grants m.events) in
      each_numbered (IsSubjectPart (image_of m)) 0 (subject_parts m)
      (λ j q at.
      let there = mapped_there (subject_part m.placed) 0 parts j q at in
      let both = zipped_both r.subjects (zip m.placed.expanded.grants m.events) j there.0 there.1 in
      let last = zipped_both m.placed.expanded.grants m.events j there.0.1 both.1 in
      let n : j ≡ 0 + j = omega arith in
      subst (λ (q : SubjectPart). IsSubjectPart (image_of m) (0 + j, q)) there.2
      (subst (λ i. IsSubjectPart (image_of m) (i, subject_part m.placed (i, there.0))) n (is_subject j there.0.0 there.0.1.0 there.0.1.1 both.0 last.0 last.1)))
