-- The numbers of a resolved policy that keeps the rules fit into a plan.
use Rattle.std.proofs.Common.{◌≡◌, ℕ, ◌+◌, ◌^◌, ◌<◌, ◌≤◌, true, length, arith}
use Rattle.std.specs.Prelude.{◌&&◌, nat_lt, nat_le}
use Rattle.std.specs.List.{list_all}
use Rattle.std.proofs.lemmas.Bool.{and_from, and_parts, leb-true, lt-ltb, ltb-true}
use Rattle.muen_num.specs.declared.limits.TheConstants.{MOST_CPUS, MOST_MINOR_FRAMES, MOST_SUBJECTS, MOST_TICKS}
use Rattle.policy_lawful.specs.Resolution.{Resolution, major_in_range, source_of}
use Rattle.policy_lawful.specs.declared.resolved.CpuFrames.{CpuFrames}
use Rattle.plan_emit.specs.Emitted.{fits_entry, fits_group, fits_major, fits_minor}
use Rattle.muen_num.proofs.Lists.{each_at_most, each_from, each_of}
use Rattle.policy_lawful.proofs.KeptByIndex.{cpus_of_groups, entries_within, entry_there, frame_there, has_members, members_there}
use Rattle.policy_lawful.proofs.KeptPlan.{PlanKept}
use Rattle.policy_lawful.proofs.SourceElements.{many_groups, many_subjects}
use Rattle.policy_lawful.specs.ByIndex.{is_short, ticks_in}

pub groups_fit : (r : Resolution) → PlanKept r → list_all fits_group r.scheduling.groups ≡ true
unfolding source_of
groups_fit r k =
    let few : r.processor.logical_cpus ≤ MOST_CPUS = k.cpus.most in
    let subjects : length (source_of r).subjects ≤ MOST_SUBJECTS = k.limits.most_subjects in
    let many = many_subjects r in
    let small : (i : ℕ) → nat_lt i (length r.subjects) ≡ true → nat_lt i (2 ^ 8) ≡ true = λ i l.
    let below : i < length r.subjects = ltb-true i (length r.subjects) l in
    lt-ltb i (2 ^ 8) (omega (arith, below, subjects, many)) in
    each_of (λ g. nat_lt g.cpu r.processor.logical_cpus) (has_members r) fits_group
    (λ g on in_range.
    let below : g.cpu < r.processor.logical_cpus = ltb-true g.cpu r.processor.logical_cpus on in
    let parts = and_parts (nat_lt 0 (length g.subjects)) (list_all (λ i. nat_lt i (length r.subjects)) g.subjects) in_range in
    let cpu : nat_lt g.cpu (2 ^ 8) ≡ true = lt-ltb g.cpu (2 ^ 8) (omega (arith, below, few)) in
    and_from (nat_lt g.cpu (2 ^ 8) && nat_lt 0 (length g.subjects)) (list_all (λ i. nat_lt i (2 ^ 8)) g.subjects)
    (and_from (nat_lt g.cpu (2 ^ 8)) (nat_lt 0 (length g.subjects)) cpu parts.0)
    (each_from (λ i. nat_lt i (length r.subjects)) (λ i. nat_lt i (2 ^ 8)) small g.subjects parts.1))
    r.scheduling.groups (cpus_of_groups r k) (members_there r k)

entry_fits : (r : Resolution) (c : CpuFrames) → length r.scheduling.groups ≤ MOST_SUBJECTS → is_short c ≡ true → entry_there r c ≡ true → fits_entry c ≡ true
entry_fits r c few short in_range =
    let most : ticks_in c ≤ MOST_TICKS = leb-true (ticks_in c) MOST_TICKS (and_parts (nat_le (ticks_in c) MOST_TICKS) (nat_le (length c.minor_frames) MOST_MINOR_FRAMES) short).0 in
    let each : list_all (λ f. nat_lt f.ticks (MOST_TICKS + 1)) c.minor_frames ≡ true = each_at_most (λ f. f.ticks) MOST_TICKS c.minor_frames most in
    and_from (list_all fits_minor c.minor_frames) (nat_lt (ticks_in c) (2 ^ 32))
    (each_of (frame_there r) (λ f. nat_lt f.ticks (MOST_TICKS + 1)) fits_minor
    (λ f group ticks.
    let there : f.group < length r.scheduling.groups = ltb-true f.group (length r.scheduling.groups) group in
    let short : f.ticks < MOST_TICKS + 1 = ltb-true f.ticks (MOST_TICKS + 1) ticks in
    and_from (nat_lt f.group (2 ^ 8)) (nat_lt f.ticks (2 ^ 32)) (lt-ltb f.group (2 ^ 8) (omega (arith, there, few))) (lt-ltb f.ticks (2 ^ 32) (omega (arith, short))))
    c.minor_frames in_range each)
    (lt-ltb (ticks_in c) (2 ^ 32) (omega (arith, most)))

pub majors_fit : (r : Resolution) → PlanKept r → list_all fits_major r.scheduling.major_frames ≡ true
majors_fit r k =
    let many_s = many_subjects r in
    let many_g = many_groups r in
    let subjects : length (source_of r).subjects ≤ MOST_SUBJECTS = k.limits.most_subjects in
    let groups : length (source_of r).scheduling.groups ≤ length (source_of r).subjects = k.members.few in
    let few : length r.scheduling.groups ≤ MOST_SUBJECTS = omega (arith, many_s, many_g, subjects, groups) in
    each_of (λ m. list_all is_short m.cpus) (major_in_range r) fits_major
    (λ m short in_range. each_of is_short (entry_there r) fits_entry
    (λ c w q. entry_fits r c few w q) m.cpus short in_range)
    r.scheduling.major_frames (entries_within r k) k.majors_in_range
