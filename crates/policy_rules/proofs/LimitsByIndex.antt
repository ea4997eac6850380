-- Rule 20 of a resolved policy is that of its source policy.
use Rattle.std.proofs.Common.{◌≡◌, ℕ, ◌+◌, Bool, true, List, [], ◌∷◌, ◌++◌, length, map, Option, Some, None, refl, sym, ap, ◌∙◌, arith, length-append}
use Rattle.std.specs.Prelude.{◌&&◌, nat_le, option_map}
use Rattle.std.specs.Option.{option_map_or}
use Rattle.std.specs.List.{count_by, filter, list_all, sum_by}
use Rattle.std.proofs.lemmas.List.{length-map}
use Rattle.std.proofs.lemmas.List.Sums.{length-filter, sum_by-append, sum_by-cons}
use Rattle.muen_num.proofs.Lists.{sum_by-map}
use Rattle.muen_num.proofs.SameAnswers.{both_named, first_in-map, first_in_same, sum_by_same}
use Rattle.muen_num.proofs.SearchLaws.{option_or-None, option_or_assoc}
use Rattle.muen_num.specs.declared.limits.TheConstants.{KERNEL_REGIONS, MOST_LOGICAL_NAMES, MOST_MINOR_FRAMES, MOST_MSRS, MOST_TICKS, MOST_WINDOWS}
use Rattle.muen_num.specs.Search.{unless}
use Rattle.policy_lawful.specs.ByIndex.{is_short, provided_at}
use Rattle.policy_lawful.specs.Offences.{alone}
use Rattle.policy_lawful.specs.Resolution.{IsResolved, Resolution, component_named, component_in_range, cpu_named, major_named, source_of, subject_named, subject_in_range}
use Rattle.policy_lawful.specs.Rules as rules
use Rattle.policy_lawful.specs.Rules.{at_most, logical_names, major_name, offence_20, regions_for, subject_limit, window_extents}
use Rattle.policy_lawful.specs.declared.resolved.ComponentUse.{ComponentUse}
use Rattle.policy_lawful.specs.declared.resolved.CpuFrames.{CpuFrames}
use Rattle.policy_lawful.specs.declared.resolved.MajorFrame.{MajorFrame}
use Rattle.policy_lawful.specs.declared.resolved.Subject.{Subject}
use Rattle.policy_lawful.proofs.SourceElements.{parts_in_range, ticks_named}
use Rattle.policy_lawful.specs.Thing.{component_by}
use Rattle.policy_lawful.specs.source.Component.{Component}
use Rattle.policy_lawful.specs.source.Device.{Device}
use Rattle.policy_lawful.specs.source.MinorFrame.{MinorFrame}
use Rattle.policy_lawful.specs.Views.{view_extent, views_of}
use Rattle.policy_lawful.proofs.ExtentsByIndex.{extents_by_index}
use Rattle.policy_lawful.proofs.WindowsByIndex.{component_at, component_there, subject_parts}
use Rattle.policy_rules.specs.Limits.{device_memory_limit, limits_offence, resolved_major_limit, msr_count_in, name_limit, regions_of_subject, subject_limit_at}
use Rattle.rules_extents.specs.Windows.{device_extent, device_extents}

-- ---- the memory of all devices

many_extents : (ds : List Device) → length (device_extents ds) ≡ sum_by (λ d. length d.memory) ds
many_extents [] = refl
many_extents (d ∷ ds) =
    let one : length (map device_extent d.memory) ≡ length d.memory = length-map d.memory device_extent in
    let all : length (device_extents (d ∷ ds)) ≡ length (map device_extent d.memory) + length (device_extents ds) = length-append (map device_extent d.memory) (device_extents ds) in
    let sum : sum_by (λ (d : Device). length d.memory) (d ∷ ds) ≡ length d.memory + sum_by (λ (d : Device). length d.memory) ds = sum_by-cons (λ (d : Device). length d.memory) d ds in
    omega (arith, one, all, sum, many_extents ds)

bytes_of_extents : (ds : List Device) → sum_by (λ e. e.size) (device_extents ds) ≡ sum_by (λ d. sum_by (λ m. m.size) d.memory) ds
bytes_of_extents [] = refl
bytes_of_extents (d ∷ ds) =
    sum_by-append (λ e. e.size) (map device_extent d.memory) (device_extents ds)
    ∙ (λ i. sum_by-map (λ e. e.size) device_extent d.memory i + bytes_of_extents ds i)
    ∙ sym (sum_by-cons (λ (d : Device). sum_by (λ m. m.size) d.memory) d ds)

pub memory_counted : (ds : List Device) → device_memory_limit (length (device_extents ds)) (sum_by (λ e. e.size) (device_extents ds)) ≡ device_memory_limit (sum_by (λ d. length d.memory) ds) (sum_by (λ d. sum_by (λ m. m.size) d.memory) ds)
memory_counted ds = λ i. device_memory_limit (many_extents ds i) (bytes_of_extents ds i)

-- ---- names, subjects and regions

pub kept_counted : {X : Type 0} (p : X → Bool) (xs : List X) → length (filter p xs) ≡ count_by p xs
kept_counted p xs = length-filter p xs

names_named : (c : Component) → name_limit c ≡ at_most (length (logical_names c)) MOST_LOGICAL_NAMES c.name
names_named c =
    let provides = map (λ x. x.logical) c.provides in
    let memory = map (λ x. x.logical) c.memory in
    let channels = map (λ x. x.logical) c.channels in
    let a : length provides ≡ length c.provides = length-map c.provides (λ x. x.logical) in
    let b : length memory ≡ length c.memory = length-map c.memory (λ x. x.logical) in
    let d : length channels ≡ length c.channels = length-map c.channels (λ x. x.logical) in
    let front : length (provides ++ memory) ≡ length provides + length memory = length-append provides memory in
    let whole : length (logical_names c) ≡ length (provides ++ memory) + length channels = length-append (provides ++ memory) channels in
    let many : length c.provides + length c.memory + length c.channels ≡ length (logical_names c) = omega (arith, a, b, d, front, whole) in
    ap (λ n. at_most n MOST_LOGICAL_NAMES c.name) many

subject_named_limit : (r : Resolution) → IsResolved r → (s : Subject) → subject_in_range r s ≡ true → subject_limit (source_of r) (subject_named r s) ≡ subject_limit_at r s
subject_named_limit r q s in_range =
    let many : length (window_extents (source_of r) (subject_named r s)) ≡ length (views_of r s) = ap length (extents_by_index r s q in_range) ∙ length-map (views_of r s) view_extent in
    ap (λ n. unless (nat_le n MOST_WINDOWS && nat_le (sum_by msr_count_in s.msrs) MOST_MSRS) (alone s.name)) many

provided_named : (r : Resolution) → IsResolved r → (o : Option ComponentUse) → option_map_or (component_in_range r) o true ≡ true
    → option_map_or (λ c. length c.provides) (component_by (source_of r) (option_map (component_named r) o)) 0 ≡ length (provided_at r.components o)
provided_named r q None h = refl
provided_named r q (Some used) h =
    let c = component_there r used h in
    ap (λ o. option_map_or (λ (c : Component). length c.provides) o 0) (component_at r q used c.0 c.1)
    ∙ ap (λ o. length (option_map_or (λ (c : Component). c.provides) o [])) (sym c.1)

regions_named : (r : Resolution) → IsResolved r → (s : Subject) → subject_in_range r s ≡ true → regions_for (source_of r) (subject_named r s) ≡ regions_of_subject r s
regions_named r q s in_range = ap (λ n. n + KERNEL_REGIONS) (provided_named r q s.component (subject_parts r s in_range).component)

-- ---- major frames

entries_named : (r : Resolution) (cs : List CpuFrames) → list_all rules.is_short (map (cpu_named r) cs) ≡ list_all is_short cs
entries_named r [] = refl
entries_named r (c ∷ cs) =
    let many : length (cpu_named r c).minor_frames ≡ length c.minor_frames = length-map {B = MinorFrame} c.minor_frames _ in
    λ i. (nat_le (ticks_named r c i) MOST_TICKS && nat_le (many i) MOST_MINOR_FRAMES) && entries_named r cs i

major_limit_named : (r : Resolution) (k : ℕ) (m : MajorFrame) → rules.major_limit (k, major_named r m) ≡ resolved_major_limit (k, m)
major_limit_named r k m = ap (λ b. unless b (alone (major_name k))) (entries_named r m.cpus)

-- ---- all limits

pub limits_by_index : (r : Resolution) → IsResolved r → limits_offence r ≡ offence_20 (source_of r)
unfolding offence_20 source_of
limits_by_index r q =
    let in_range = (parts_in_range r q.in_range).subjects in
    let many = length-map r.subjects (subject_named r) in
    let majors = length-map r.scheduling.major_frames (major_named r) in
    let names = first_in_same name_limit (λ c. at_most (length (logical_names c)) MOST_LOGICAL_NAMES c.name) names_named r.components in
    let subjects = first_in-map (subject_named r) (subject_limit (source_of r)) (subject_limit_at r) (subject_in_range r) (λ s h. subject_named_limit r q s h) r.subjects in_range in
    let regions : sum_by (regions_for (source_of r)) (map (subject_named r) r.subjects) ≡ sum_by (regions_of_subject r) r.subjects =
    sum_by-map (regions_for (source_of r)) (subject_named r) r.subjects ∙ sum_by_same (λ s. regions_for (source_of r) (subject_named r s)) (regions_of_subject r) (subject_in_range r) (λ s h. regions_named r q s h) r.subjects in_range in
    let within = both_named rules.major_limit resolved_major_limit (major_named r) (major_limit_named r) r.scheduling.major_frames in
    simp (many, majors, names, subjects, regions, within, option_or_assoc, option_or-None)
