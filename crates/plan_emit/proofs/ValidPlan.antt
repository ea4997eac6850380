-- The plan can run.
use Rattle.std.proofs.Common.{◌≡◌, ℕ, ◌<◌, ◌≤◌, Bool, true, false, List, [], ◌∷◌, length, map, Option, Some, None, refl, sym, ap, ◌∙◌, arith}
use Rattle.std.specs.Prelude.{◌==◌, ◌&&◌, nat_lt, nat_le, slice_get, option_map}
use Rattle.std.specs.Option.{option_map_or}
use Rattle.std.specs.List.{find, list_all, list_any, sum_by, enumerate_from}
use Rattle.std.proofs.lemmas.Bool.{and_from, and_parts, eq-eqb, eqb-true, le-leb, leb-true, lt-ltb, ltb-true}
use Rattle.std.proofs.lemmas.List.{length-map}
use Rattle.std.proofs.lemmas.List.Folds.{list_all-map}
use Rattle.std.proofs.lemmas.Option.{slice_get-map}
use Rattle.muen_num.specs.declared.limits.TheConstants.{MOST_CPUS, MOST_MAJOR_FRAMES, MOST_MINOR_FRAMES, MOST_TICKS}
use Rattle.muen_num.specs.Range.{numbers_below}
use Rattle.frame_clock.specs.Plan.{cpus_of, is_cpu, is_group_on, is_major, is_minor, is_plan}
use Rattle.frame_clock.specs.declared.plan.GroupPart.{GroupPart}
use Rattle.frame_clock.specs.declared.plan.Minor.{Minor}
use Rattle.policy_lawful.specs.Resolution.{Resolution, cpu_named, major_named, major_in_range, name_at, source_of}
use Rattle.policy_lawful.specs.Rules.{group_cpu, is_frame, is_on, repeated}
use Rattle.policy_lawful.specs.Rules as rules
use Rattle.policy_lawful.specs.declared.resolved.CpuFrames.{CpuFrames}
use Rattle.policy_lawful.specs.declared.resolved.Group.{Group}
use Rattle.policy_lawful.specs.declared.resolved.MajorFrame.{MajorFrame}
use Rattle.policy_lawful.specs.declared.resolved.MinorFrame.{MinorFrame}
use Rattle.muen_num.proofs.Lists.{each_both, each_of, found, IsFound, list_any-map, sum_by-map}
use Rattle.plan_emit.specs.Emitted.{cpu_part, emitted, first_ticks, group_part, major_part, minor_part}
use Rattle.policy_lawful.proofs.KeptMajors as kept
use Rattle.plan_emit.proofs.EmittedFrames.{cpus_emitted}
use Rattle.muen_num.proofs.NumbersBelow.{length_numbers, number_passes, numbered}
use Rattle.policy_lawful.proofs.SourceElements.{cpu_at_index, frame_named, many_majors, ticks_named}
use Rattle.policy_lawful.proofs.UniqueNames.{group_names}
use Rattle.policy_lawful.specs.ByIndex.{is_short, ticks_in}
use Rattle.policy_lawful.proofs.KeptByIndex.{cpus_of_groups, entries_within, entry_there, frame_there}
use Rattle.policy_lawful.proofs.KeptPlan.{PlanKept}
use Rattle.policy_lawful.proofs.KeptMajors.{has_frames, is_major_kept, is_named, some_ticks}

abbrev parts_of : Resolution → List GroupPart
parts_of r = map group_part r.scheduling.groups

-- ---- minor frames

same_on : (cpu : ℕ) (o : Option Group) → option_map_or (λ g. g.cpu == cpu) (option_map group_part o) false ≡ is_on (option_map (λ g. g.cpu) o) cpu
same_on cpu None = refl
same_on cpu (Some g) = refl

minor_valid : (r : Resolution) (cpu : ℕ) (f : MinorFrame) → repeated (group_names r) ≡ None → is_frame (source_of r) cpu (frame_named r f) ≡ true → frame_there r f ≡ true → is_minor (parts_of r) cpu (minor_part f) ≡ true
minor_valid r cpu f unique frame there =
    let named = group_cpu (source_of r) (name_at (group_names r) f.group) in
    let parts = and_parts (nat_lt 0 f.ticks) (is_on named cpu) frame in
    let on : is_group_on (parts_of r) cpu f.group ≡ is_on named cpu =
    ap (λ o. option_map_or (λ g. g.cpu == cpu) o false) (slice_get-map group_part r.scheduling.groups f.group)
    ∙ same_on cpu (slice_get r.scheduling.groups f.group)
    ∙ sym (ap (λ o. is_on o cpu) (cpu_at_index r f.group unique (ltb-true f.group (length r.scheduling.groups) there))) in
    and_from (nat_lt 0 f.ticks) (is_group_on (parts_of r) cpu f.group) parts.0 (on ∙ parts.1)

-- ---- entries

-- what is known of an entry
record IsEntry (r : Resolution) (ticks : ℕ) (c : CpuFrames) : Type 0 where
  frames : has_frames (source_of r) ticks (cpu_named r c) ≡ true
  limits : is_short c ≡ true
  there : entry_there r c ≡ true

ticks_of_entry : (r : Resolution) (ticks : ℕ) (c : CpuFrames) → IsEntry r ticks c → ticks ≡ ticks_in c
ticks_of_entry r ticks c e =
    let named = cpu_named r c in
    let parts = and_parts (nat_lt 0 (length named.minor_frames) && list_all (is_frame (source_of r) c.cpu) named.minor_frames) (ticks == rules.ticks_in named) e.frames in
    eqb-true ticks (rules.ticks_in named) parts.1 ∙ ticks_named r c

cpu_valid : (r : Resolution) (ticks : ℕ) (c : CpuFrames) → repeated (group_names r) ≡ None → IsEntry r ticks c → is_cpu (parts_of r) ticks (c.cpu, map minor_part c.minor_frames) ≡ true
cpu_valid r ticks c unique e =
    let named = (cpu_named r c).minor_frames in
    let minors : List Minor = map minor_part c.minor_frames in
    let many_named : length named ≡ length c.minor_frames = length-map c.minor_frames (frame_named r) in
    let many : length minors ≡ length c.minor_frames = length-map c.minor_frames minor_part in
    let parts = and_parts (nat_lt 0 (length named) && list_all (is_frame (source_of r) c.cpu) named) (ticks == rules.ticks_in (cpu_named r c)) e.frames in
    let frames = and_parts (nat_lt 0 (length named)) (list_all (is_frame (source_of r) c.cpu) named) parts.0 in
    let most = and_parts (nat_le (ticks_in c) MOST_TICKS) (nat_le (length c.minor_frames) MOST_MINOR_FRAMES) e.limits in
    let some : 0 < length named = ltb-true 0 (length named) frames.0 in
    let few : length c.minor_frames ≤ MOST_MINOR_FRAMES = leb-true (length c.minor_frames) MOST_MINOR_FRAMES most.1 in
    let least : nat_lt 0 (length minors) ≡ true = lt-ltb 0 (length minors) (omega (arith, many, many_named, some)) in
    let upper : nat_le (length minors) MOST_MINOR_FRAMES ≡ true = le-leb (length minors) MOST_MINOR_FRAMES (omega (arith, many, few)) in
    let valid : list_all (is_minor (parts_of r) c.cpu) minors ≡ true =
    list_all-map (is_minor (parts_of r) c.cpu) minor_part c.minor_frames
    ∙ each_of (λ f. is_frame (source_of r) c.cpu (frame_named r f)) (frame_there r) (λ f. is_minor (parts_of r) c.cpu (minor_part f))
    (λ f frame there. minor_valid r c.cpu f unique frame there) c.minor_frames
    (sym (list_all-map (is_frame (source_of r) c.cpu) (frame_named r) c.minor_frames) ∙ frames.1) e.there in
    let sum : (sum_by (λ f. f.ticks) minors == ticks) ≡ true =
    eq-eqb (sum_by (λ f. f.ticks) minors) ticks (sum_by-map (λ f. f.ticks) minor_part c.minor_frames ∙ sym (ticks_of_entry r ticks c e)) in
    and_from (nat_lt 0 (length minors) && nat_le (length minors) MOST_MINOR_FRAMES && list_all (is_minor (parts_of r) c.cpu) minors) (sum_by (λ f. f.ticks) minors == ticks)
    (and_from (nat_lt 0 (length minors) && nat_le (length minors) MOST_MINOR_FRAMES) (list_all (is_minor (parts_of r) c.cpu) minors)
    (and_from (nat_lt 0 (length minors)) (nat_le (length minors) MOST_MINOR_FRAMES) least upper) valid) sum

-- ---- major frames

same_first : (r : Resolution) (cs : List CpuFrames) → kept.first_ticks (map (cpu_named r) cs) ≡ first_ticks cs
same_first r [] = refl
same_first r (c ∷ cs) = ticks_named r c

-- what is known of a major frame
record IsMajor (r : Resolution) (m : MajorFrame) : Type 0 where
  by_name : is_major_kept (source_of r) (major_named r m) ≡ true
  limits : list_all is_short m.cpus ≡ true
  there : major_in_range r m ≡ true

-- the entry of a CPU
record HasEntry (r : Resolution) (m : MajorFrame) (cpu : ℕ) : Type 0 where
  entry : CpuFrames
  is : find (λ c. c.cpu == cpu) m.cpus ≡ Some entry
  cpu_is : entry.cpu ≡ cpu
  known : IsEntry r (first_ticks m.cpus) entry

entry_of : (r : Resolution) (m : MajorFrame) (cpu : ℕ) → IsMajor r m → cpu < r.processor.logical_cpus → HasEntry r m cpu
unfolding source_of
entry_of r m cpu known l =
    let cpus = r.processor.logical_cpus in
    let named = map (cpu_named r) m.cpus in
    let parts = and_parts (list_all (has_frames (source_of r) (kept.first_ticks named)) named) (list_all (is_named named) (numbers_below cpus)) known.by_name in
    let listed : list_any (λ c. c.cpu == cpu) m.cpus ≡ true =
    sym (list_any-map (λ c. c.cpu == cpu) (cpu_named r) m.cpus) ∙ number_passes (is_named named) cpus cpu l parts.1 in
    let at : IsFound (λ c. c.cpu == cpu) m.cpus = found (λ c. c.cpu == cpu) m.cpus listed in
    let frames : list_all (λ c. has_frames (source_of r) (first_ticks m.cpus) (cpu_named r c)) m.cpus ≡ true =
    sym (list_all-map (has_frames (source_of r) (first_ticks m.cpus)) (cpu_named r) m.cpus)
    ∙ ap (λ n. list_all (has_frames (source_of r) n) named) (sym (same_first r m.cpus))
    ∙ parts.0 in
    record {
      entry = at.item;
      is = at.is;
      cpu_is = eqb-true at.item.cpu cpu at.passes;
      known = record {
        frames = at.among (λ c. has_frames (source_of r) (first_ticks m.cpus) (cpu_named r c)) frames;
        limits = at.among is_short known.limits;
        there = at.among (entry_there r) known.there;
      };
    }

part_valid : (r : Resolution) (m : MajorFrame) (cpu : ℕ) → repeated (group_names r) ≡ None → IsMajor r m → cpu < r.processor.logical_cpus → is_cpu (parts_of r) (first_ticks m.cpus) (cpu, cpu_part m.cpus cpu) ≡ true
part_valid r m cpu unique known l =
    let at = entry_of r m cpu known l in
    let part : cpu_part m.cpus cpu ≡ map minor_part at.entry.minor_frames = ap (λ o. option_map_or (λ c. map minor_part c.minor_frames) o []) at.is in
    ap (λ ms. is_cpu (parts_of r) (first_ticks m.cpus) (cpu, ms)) part
    ∙ ap (λ n. is_cpu (parts_of r) (first_ticks m.cpus) (n, map minor_part at.entry.minor_frames)) (sym at.cpu_is)
    ∙ cpu_valid r (first_ticks m.cpus) at.entry unique at.known

major_valid : (r : Resolution) (m : MajorFrame) → PlanKept r → IsMajor r m → is_major (parts_of r) r.processor.logical_cpus (major_part r.processor.logical_cpus m) ≡ true
unfolding source_of
major_valid r m k known =
    let cpus = r.processor.logical_cpus in
    let ticks = first_ticks m.cpus in
    let parts = map (cpu_part m.cpus) (numbers_below cpus) in
    let some_cpu : 1 ≤ cpus = k.cpus.some in
    let at = entry_of r m 0 known (omega (arith, some_cpu)) in
    let same : ticks ≡ ticks_in at.entry = ticks_of_entry r ticks at.entry at.known in
    let named : rules.ticks_in (cpu_named r at.entry) ≡ ticks_in at.entry = ticks_named r at.entry in
    let some : 0 < rules.ticks_in (cpu_named r at.entry) = some_ticks (source_of r) ticks (cpu_named r at.entry) at.known.frames in
    let most : ticks_in at.entry ≤ MOST_TICKS = leb-true (ticks_in at.entry) MOST_TICKS (and_parts (nat_le (ticks_in at.entry) MOST_TICKS) (nat_le (length at.entry.minor_frames) MOST_MINOR_FRAMES) at.known.limits).0 in
    let count : (length parts == cpus) ≡ true = eq-eqb (length parts) cpus (length-map (numbers_below cpus) (cpu_part m.cpus) ∙ length_numbers cpus) in
    let least : nat_lt 0 ticks ≡ true = lt-ltb 0 ticks (omega (arith, same, named, some)) in
    let upper : nat_le ticks MOST_TICKS ≡ true = le-leb ticks MOST_TICKS (omega (arith, same, most)) in
    let valid : list_all (is_cpu (parts_of r) ticks) (enumerate_from 0 parts) ≡ true =
    numbered (is_cpu (parts_of r) ticks) (cpu_part m.cpus) cpus (λ cpu l. part_valid r m cpu k.unique known l) in
    and_from ((length parts == cpus) && nat_lt 0 ticks && nat_le ticks MOST_TICKS) (list_all (is_cpu (parts_of r) ticks) (enumerate_from 0 parts))
    (and_from ((length parts == cpus) && nat_lt 0 ticks) (nat_le ticks MOST_TICKS) (and_from (length parts == cpus) (nat_lt 0 ticks) count least) upper) valid

majors_valid : (r : Resolution) → PlanKept r → list_all (is_major (parts_of r) r.processor.logical_cpus) (emitted r).majors ≡ true
unfolding source_of
majors_valid r k =
    let cpus = r.processor.logical_cpus in
    let named : list_all (λ m. is_major_kept (source_of r) (major_named r m)) r.scheduling.major_frames ≡ true =
    sym (list_all-map (is_major_kept (source_of r)) (major_named r) r.scheduling.major_frames) ∙ k.majors.majors in
    let limits : list_all (λ m. list_all is_short m.cpus) r.scheduling.major_frames ≡ true = entries_within r k in
    list_all-map (is_major (parts_of r) cpus) (major_part cpus) r.scheduling.major_frames
    ∙ each_of (λ m. is_major_kept (source_of r) (major_named r m) && list_all is_short m.cpus) (major_in_range r) (λ m. is_major (parts_of r) cpus (major_part cpus m))
    (λ m both there.
    let parts = and_parts (is_major_kept (source_of r) (major_named r m)) (list_all is_short m.cpus) both in
    major_valid r m k (record { by_name = parts.0; limits = parts.1; there = there }))
    r.scheduling.major_frames
    (each_both (λ m. is_major_kept (source_of r) (major_named r m)) (λ m. list_all is_short m.cpus) r.scheduling.major_frames named limits)
    k.majors_in_range

-- ---- the plan

pub processor_same : (r : Resolution) → (source_of r).processor.logical_cpus ≡ r.processor.logical_cpus
unfolding source_of
processor_same r = refl

all_six : (a b c d e f : Bool) → a ≡ true → b ≡ true → c ≡ true → d ≡ true → e ≡ true → f ≡ true → (a && b && c && d && e && f) ≡ true
all_six a b c d e f p q s t u v =
    and_from (a && b && c && d && e) f (and_from (a && b && c && d) e (and_from (a && b && c) d (and_from (a && b) c (and_from a b p q) s) t) u) v

pub plan_valid : (r : Resolution) → PlanKept r → is_plan (emitted r) ≡ true
unfolding is_plan
plan_valid r k =
    let cpus = r.processor.logical_cpus in
    let plan = emitted r in
    let is : cpus_of plan ≡ cpus = cpus_emitted r k in
    let some : 1 ≤ (source_of r).processor.logical_cpus = k.cpus.some in
    let most : (source_of r).processor.logical_cpus ≤ MOST_CPUS = k.cpus.most in
    let same : (source_of r).processor.logical_cpus ≡ cpus = processor_same r in
    let some_m : 1 ≤ length (source_of r).scheduling.major_frames = k.limits.some_majors in
    let most_m : length (source_of r).scheduling.major_frames ≤ MOST_MAJOR_FRAMES = k.limits.most_majors in
    let many : length plan.majors ≡ length r.scheduling.major_frames = length-map r.scheduling.major_frames (major_part cpus) in
    let named = many_majors r in
    let a : nat_lt 0 (cpus_of plan) ≡ true = lt-ltb 0 (cpus_of plan) (omega (arith, is, same, some)) in
    let b : nat_le (cpus_of plan) MOST_CPUS ≡ true = le-leb (cpus_of plan) MOST_CPUS (omega (arith, is, same, most)) in
    let c : nat_lt 0 (length plan.majors) ≡ true = lt-ltb 0 (length plan.majors) (omega (arith, some_m, many, named)) in
    let d : nat_le (length plan.majors) MOST_MAJOR_FRAMES ≡ true = le-leb (length plan.majors) MOST_MAJOR_FRAMES (omega (arith, most_m, many, named)) in
    let groups : list_all (λ g. nat_lt g.cpu (cpus_of plan)) plan.groups ≡ true =
    ap (λ n. list_all (λ g. nat_lt g.cpu n) plan.groups) is
    ∙ list_all-map (λ g. nat_lt g.cpu cpus) group_part r.scheduling.groups
    ∙ cpus_of_groups r k in
    let majors : list_all (is_major plan.groups (cpus_of plan)) plan.majors ≡ true =
    ap (λ n. list_all (is_major plan.groups n) plan.majors) is ∙ majors_valid r k in
    all_six (nat_lt 0 (cpus_of plan)) (nat_le (cpus_of plan) MOST_CPUS) (nat_lt 0 (length plan.majors)) (nat_le (length plan.majors) MOST_MAJOR_FRAMES)
    (list_all (λ g. nat_lt g.cpu (cpus_of plan)) plan.groups) (list_all (is_major plan.groups (cpus_of plan)) plan.majors) a b c d groups majors
