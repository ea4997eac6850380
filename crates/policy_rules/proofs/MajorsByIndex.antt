-- Rule 16 of a resolved policy is that of its source policy: a group is told by its name or by its index.
use Rattle.std.proofs.Common.{◌≡◌, ℕ, Bool, true, List, [], ◌∷◌, length, map, None, refl, sym, ap, ◌∙◌}
use Rattle.std.specs.Prelude.{◌==◌, ◌&&◌, not, nat_lt, slice_get}
use Rattle.std.specs.Option.{option_map_or, option_or}
use Rattle.std.specs.List.{list_any, list_all, enumerate_from}
use Rattle.std.proofs.lemmas.Bool.{ltb-true}
use Rattle.std.proofs.lemmas.List.Folds.{list_all-map}
use Rattle.muen_num.specs.Range.{numbers_below}
use Rattle.muen_num.specs.Search.{first_in, first_after, unless}
use Rattle.muen_num.proofs.Lists.{list_any-map}
use Rattle.muen_num.proofs.SearchLaws.{option_or-None}
use Rattle.policy_lawful.specs.ByIndex.{ticks_in}
use Rattle.policy_lawful.specs.Offences.{two}
use Rattle.policy_lawful.specs.Rules as rules
use Rattle.policy_lawful.specs.Rules.{repeated, major_name, cpu_name, is_on, offence_16, tau0_offence}
use Rattle.policy_lawful.specs.Resolution.{Resolution, IsResolved, source_of, cpu_named, major_named, major_in_range}
use Rattle.policy_lawful.specs.declared.resolved.MajorFrame.{MajorFrame as ResolvedMajor}
use Rattle.policy_lawful.specs.declared.resolved.CpuFrames.{CpuFrames as ResolvedCpu}
use Rattle.policy_lawful.specs.declared.resolved.MinorFrame.{MinorFrame as ResolvedFrame}
use Rattle.policy_lawful.proofs.SourceElements.{cpu_at_index, frame_named, parts_in_range, ticks_named}
use Rattle.policy_lawful.proofs.UniqueNames.{group_names, groups_unique}
use Rattle.policy_rules.specs.Majors.{is_resolved_frame, has_first_ticks, is_resolved_major_entry, cpu_frames_offence, missing_offence, resolved_major_offence}
use Rattle.muen_num.proofs.SameAnswers.{first_in_same, first_numbered-map, first_after-map, list_all_same, some_items}

frame_in_range : Resolution → ResolvedFrame → Bool
frame_in_range r f = nat_lt f.group (length r.scheduling.groups)

same_frame : (r : Resolution) (cpu : ℕ) (f : ResolvedFrame) → repeated (group_names r) ≡ None → frame_in_range r f ≡ true
    → rules.is_frame (source_of r) cpu (frame_named r f) ≡ is_resolved_frame r.scheduling.groups cpu f
unfolding frame_in_range
same_frame r cpu f unique in_range =
    ap (λ o. nat_lt 0 f.ticks && is_on o cpu) (cpu_at_index r f.group unique (ltb-true f.group (length r.scheduling.groups) in_range))

same_frames : (r : Resolution) (cpu : ℕ) (fs : List ResolvedFrame) → repeated (group_names r) ≡ None → list_all (frame_in_range r) fs ≡ true
    → list_all (rules.is_frame (source_of r) cpu) (map (frame_named r) fs) ≡ list_all (is_resolved_frame r.scheduling.groups cpu) fs
same_frames r cpu fs unique in_range =
    list_all-map (rules.is_frame (source_of r) cpu) (frame_named r) fs
    ∙ list_all_same (λ f. rules.is_frame (source_of r) cpu (frame_named r f)) (is_resolved_frame r.scheduling.groups cpu) (frame_in_range r) (λ f. same_frame r cpu f unique) fs in_range

same_first_ticks : (r : Resolution) (before : List ResolvedCpu) (c : ResolvedCpu)
    → option_map_or (λ b. rules.ticks_in b == rules.ticks_in (cpu_named r c)) (slice_get (map (cpu_named r) before) 0) true ≡ has_first_ticks before c
same_first_ticks r [] c = refl
same_first_ticks r (b ∷ bs) c =
    ap (λ n. n == rules.ticks_in (cpu_named r c)) (ticks_named r b) ∙ ap (λ n. ticks_in b == n) (ticks_named r c)

four_same : (a b c d a' b' c' d' : Bool) → a ≡ a' → b ≡ b' → c ≡ c' → d ≡ d' → (not a && b && c && d) ≡ (not a' && b' && c' && d')
four_same a b c d a' b' c' d' p q s t =
    ap (λ x. not x && b && c && d) p ∙ ap (λ x. not a' && x && c && d) q ∙ ap (λ x. not a' && b' && x && d) s ∙ ap (λ x. not a' && b' && c' && x) t

cpu_in_range : Resolution → ResolvedCpu → Bool
cpu_in_range r c = list_all (frame_in_range r) c.minor_frames

same_entry : (r : Resolution) (before : List ResolvedCpu) (c : ResolvedCpu) → repeated (group_names r) ≡ None → cpu_in_range r c ≡ true
    → rules.is_entry (source_of r) (map (cpu_named r) before) (cpu_named r c) ≡ is_resolved_major_entry r.scheduling.groups before c
unfolding cpu_in_range
same_entry r before c unique in_range =
    four_same _ _ _ _ _ _ _ _
    (list_any-map (λ b. b.cpu == c.cpu) (cpu_named r) before)
    (some_items (frame_named r) c.minor_frames)
    (same_frames r c.cpu c.minor_frames unique in_range)
    (same_first_ticks r before c)

same_major : (r : Resolution) (k : ℕ) (m : ResolvedMajor) → repeated (group_names r) ≡ None → major_in_range r m ≡ true
    → rules.major_offence (source_of r) (k, major_named r m) ≡ resolved_major_offence r.scheduling.groups r.processor.logical_cpus (k, m)
unfolding source_of cpu_in_range frame_in_range
same_major r k m unique in_range =
    let entries : first_after (λ before c. unless (rules.is_entry (source_of r) before c) (two (major_name k) (cpu_name c.cpu))) [] (map (cpu_named r) m.cpus)
    ≡ first_after (cpu_frames_offence r.scheduling.groups k) [] m.cpus =
    first_after-map (cpu_named r) (λ before c. unless (rules.is_entry (source_of r) before c) (two (major_name k) (cpu_name c.cpu))) (cpu_frames_offence r.scheduling.groups k) (cpu_in_range r)
    (λ before c ok. ap (λ b. unless b (two (major_name k) (cpu_name c.cpu))) (same_entry r before c unique ok)) [] m.cpus in_range in
    let missing : first_in (λ cpu. unless (list_any (λ c. c.cpu == cpu) (map (cpu_named r) m.cpus)) (two (major_name k) (cpu_name cpu))) (numbers_below r.processor.logical_cpus)
    ≡ first_in (missing_offence m.cpus k) (numbers_below r.processor.logical_cpus) =
    first_in_same (λ cpu. unless (list_any (λ c. c.cpu == cpu) (map (cpu_named r) m.cpus)) (two (major_name k) (cpu_name cpu))) (missing_offence m.cpus k)
    (λ cpu. ap (λ b. unless b (two (major_name k) (cpu_name cpu))) (list_any-map (λ c. c.cpu == cpu) (cpu_named r) m.cpus)) (numbers_below r.processor.logical_cpus) in
    simp (option_or-None, entries, missing)

pub majors_by_index : (r : Resolution) → IsResolved r
    → option_or (first_in (resolved_major_offence r.scheduling.groups r.processor.logical_cpus) (enumerate_from 0 r.scheduling.major_frames)) (tau0_offence (source_of r) r.scheduling.tau0) ≡ offence_16 (source_of r)
unfolding offence_16 source_of
majors_by_index r resolved =
    let unique = groups_unique r resolved.names in
    ap (λ o. option_or o (tau0_offence (source_of r) r.scheduling.tau0))
    (sym (first_numbered-map (major_named r) (rules.major_offence (source_of r)) (resolved_major_offence r.scheduling.groups r.processor.logical_cpus) (major_in_range r)
    (λ k m ok. same_major r k m unique ok) 0 r.scheduling.major_frames (parts_in_range r resolved.in_range).majors))
