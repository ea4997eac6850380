-- The frames of the plan are the policy's.
use Rattle.std.proofs.Common.{◌≡◌, ℕ, ◌<◌, ◌≤◌, Bool, true, List, [], ◌∷◌, length, map, Some, None, refl, sym, ap, ◌∙◌, arith}
use Rattle.std.specs.Prelude.{◌==◌, slice_index_or, option_map}
use Rattle.std.specs.Option.{option_map_or}
use Rattle.std.specs.List.{find, filter_map, list_all}
use Rattle.std.proofs.lemmas.Bool.{and_parts, ltb-true}
use Rattle.std.proofs.lemmas.List.{get_or-map, length-map}
use Rattle.std.proofs.lemmas.Option.{get_or_from_slice_get}
use Rattle.muen_num.specs.Range.{numbers_below}
use Rattle.frame_clock.specs.Plan.{cpus_in, cpus_of, frame_of_minor, frames_in}
use Rattle.policy_lawful.specs.Frames as policy
use Rattle.policy_lawful.specs.Frames.{entry_frames, frames_of, major_frames_of}
use Rattle.policy_lawful.specs.Resolution.{Resolution, cpu_named, major_named, major_in_range, source_of}
use Rattle.policy_lawful.specs.Rules.{repeated}
use Rattle.policy_lawful.specs.declared.resolved.CpuFrames.{CpuFrames}
use Rattle.policy_lawful.specs.declared.resolved.MajorFrame.{MajorFrame}
use Rattle.policy_lawful.specs.declared.resolved.MinorFrame.{MinorFrame}
use Rattle.muen_num.proofs.Lists.{all_same, find-map, found_among, map-map}
use Rattle.plan_emit.specs.Emitted.{cpu_part, emitted, major_part, minor_part}
use Rattle.muen_num.proofs.NumbersBelow.{length_numbers, number_at}
use Rattle.policy_lawful.proofs.SourceElements.{frame_named, many_majors, index_of_group}
use Rattle.policy_lawful.proofs.UniqueNames.{group_names}
use Rattle.policy_lawful.proofs.KeptByIndex.{entry_there, frame_there}
use Rattle.policy_lawful.proofs.KeptPlan.{PlanKept}

-- ---- the number of CPUs

cpus_of_first : (cpus : ℕ) (ms : List MajorFrame) → 1 ≤ length ms → cpus_in (map (major_part cpus) ms) ≡ cpus
cpus_of_first cpus [] l = absurd (omega arith)
cpus_of_first cpus (m ∷ ms) l = length-map (numbers_below cpus) (cpu_part m.cpus) ∙ length_numbers cpus

pub cpus_emitted : (r : Resolution) → PlanKept r → cpus_of (emitted r) ≡ r.processor.logical_cpus
cpus_emitted r k =
    let some : 1 ≤ length (source_of r).scheduling.major_frames = k.limits.some_majors in
    let many = many_majors r in
    cpus_of_first r.processor.logical_cpus r.scheduling.major_frames (omega (arith, some, many))

-- ---- frames

same_frame : (r : Resolution) (f : MinorFrame) → repeated (group_names r) ≡ None → frame_there r f ≡ true → policy.frame_of (source_of r) (frame_named r f) ≡ Some (frame_of_minor (minor_part f))
unfolding source_of
same_frame r f unique in_range =
    ap (option_map (λ n. record { group = n; ticks = f.ticks }))
    (index_of_group r f.group unique (ltb-true f.group (length r.scheduling.groups) in_range))

same_frames : (r : Resolution) (fs : List MinorFrame) → repeated (group_names r) ≡ None → list_all (frame_there r) fs ≡ true → filter_map (policy.frame_of (source_of r)) (map (frame_named r) fs) ≡ map frame_of_minor (map minor_part fs)
same_frames r [] unique in_range = refl
same_frames r (f ∷ fs) unique in_range =
    let parts = and_parts (frame_there r f) (list_all (frame_there r) fs) in_range in
    let here = same_frame r f unique parts.0 in
    let rest = same_frames r fs unique parts.1 in
    rw here (ap (λ gs. frame_of_minor (minor_part f) ∷ gs) rest)

same_cpu : (r : Resolution) (cpu : ℕ) (m : MajorFrame) → repeated (group_names r) ≡ None → major_in_range r m ≡ true → map frame_of_minor (cpu_part m.cpus cpu) ≡ major_frames_of (source_of r) cpu (major_named r m)
same_cpu r cpu m unique in_range =
    let test : CpuFrames → Bool = λ c. c.cpu == cpu in
    let named : find (λ c. c.cpu == cpu) (map (cpu_named r) m.cpus) ≡ option_map (cpu_named r) (find test m.cpus) = find-map (λ c. c.cpu == cpu) (cpu_named r) m.cpus in
    (elim (find test m.cpus) as (λ o. find test m.cpus ≡ o → map frame_of_minor (option_map_or (λ c. map minor_part c.minor_frames) o []) ≡ option_map_or (entry_frames (source_of r)) (option_map (cpu_named r) o) []) [
      | None ↦ λ _. refl
      | Some c ↦ λ is. sym (same_frames r c.minor_frames unique (found_among test (entry_there r) m.cpus c is in_range))
    ] refl)
    ∙ sym (ap (λ o. option_map_or (entry_frames (source_of r)) o []) named)

at_number : (entries : List CpuFrames) (cpus cpu : ℕ) → cpu < cpus → slice_index_or (map (cpu_part entries) (numbers_below cpus)) cpu [] ≡ cpu_part entries cpu
at_number entries cpus cpu l =
    let many : length (numbers_below cpus) ≡ cpus = length_numbers cpus in
    get_or-map (cpu_part entries) (numbers_below cpus) cpu 0 [] (omega (arith, many, l))
    ∙ ap (cpu_part entries) (get_or_from_slice_get (numbers_below cpus) cpu cpu 0 (number_at cpus cpu l))

pub frames_emitted : (r : Resolution) → PlanKept r → (cpu : ℕ) → cpu < r.processor.logical_cpus → frames_in (emitted r) cpu ≡ frames_of (source_of r) cpu
unfolding frames_in frames_of source_of
frames_emitted r k cpu l =
    let cpus = r.processor.logical_cpus in
    map-map (λ m. map frame_of_minor (slice_index_or m.cpus cpu [])) (major_part cpus) r.scheduling.major_frames
    ∙ all_same (λ m. map frame_of_minor (slice_index_or (map (cpu_part m.cpus) (numbers_below cpus)) cpu [])) (λ m. major_frames_of (source_of r) cpu (major_named r m)) (major_in_range r)
    (λ m in_range. ap (map frame_of_minor) (at_number m.cpus cpus cpu l) ∙ same_cpu r cpu m k.unique in_range)
    r.scheduling.major_frames k.majors_in_range
    ∙ sym (map-map (major_frames_of (source_of r) cpu) (major_named r) r.scheduling.major_frames)
