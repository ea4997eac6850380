-- The elements of the source policy that a resolved one stands for: as many, with the same numbers, each told by its name
-- or its index.
use Rattle.std.proofs.Common.{◌≡◌, ℕ, ◌<◌, cond, length, map, true, Some, None, sym, ap, ◌∙◌, arith}
use Rattle.std.specs.Prelude.{nat_lt, option_map, position, slice_get}
use Rattle.std.specs.List.{find, list_all, position_or_len, sum_by}
use Rattle.std.specs.Str.{bytes_eq}
use Rattle.std.proofs.lemmas.Bool.{and_parts, lt-ltb}
use Rattle.std.proofs.lemmas.List.{length-map}
use Rattle.policy_lawful.specs.Rules.{group_cpu, repeated, ticks_in}
use Rattle.policy_lawful.specs.Resolution.{Resolution, are_in_range, cpu_named, group_in_range, group_named, major_in_range, major_named, name_at, source_of, subject_in_range, subject_named}
use Rattle.policy_lawful.specs.declared.resolved.CpuFrames.{CpuFrames}
use Rattle.policy_lawful.specs.declared.resolved.MinorFrame.{MinorFrame}
use Rattle.policy_types.specs.declared.source.MinorFrame.{MinorFrame as NamedMinor}
use Rattle.muen_num.proofs.Lists.{find-map, option_map-option_map, position-map, sum_by-map}
use Rattle.policy_lawful.proofs.Indexes.{found_at_index, position_is}
use Rattle.policy_lawful.proofs.UniqueNames.{group_names}

-- ---- indexes in range

-- each index that it has is in range
pub record AreInRange (r : Resolution) : Type 0 where
  pub subjects : list_all (subject_in_range r) r.subjects ≡ true
  pub groups : list_all (group_in_range r) r.scheduling.groups ≡ true
  pub majors : list_all (major_in_range r) r.scheduling.major_frames ≡ true

-- so says its test, part by part
pub parts_in_range : (r : Resolution) → are_in_range r ≡ true → AreInRange r
unfolding are_in_range
parts_in_range r h =
    let last = and_parts _ _ h in
    let first = and_parts _ _ last.0 in
    record { subjects = first.0; groups = first.1; majors = last.1 }

-- ---- how many

-- there are as many subjects
pub many_subjects : (r : Resolution) → length (source_of r).subjects ≡ length r.subjects
unfolding source_of
many_subjects r = length-map r.subjects (subject_named r)

-- as many groups
pub many_groups : (r : Resolution) → length (source_of r).scheduling.groups ≡ length r.scheduling.groups
unfolding source_of
many_groups r = length-map r.scheduling.groups (group_named r)

-- and as many major frames
pub many_majors : (r : Resolution) → length (source_of r).scheduling.major_frames ≡ length r.scheduling.major_frames
unfolding source_of
many_majors r = length-map r.scheduling.major_frames (major_named r)

-- ---- by name or by index

-- the CPU of a group at an index, by its name
pub cpu_at_index : (r : Resolution) (index : ℕ) → repeated (group_names r) ≡ None → index < length r.scheduling.groups
    → group_cpu (source_of r) (name_at (group_names r) index) ≡ option_map (λ g. g.cpu) (slice_get r.scheduling.groups index)
unfolding source_of
cpu_at_index r index unique within =
    ap (option_map (λ g. g.cpu)) (find-map (λ g. bytes_eq g.name (name_at (group_names r) index)) (group_named r) r.scheduling.groups)
    ∙ option_map-option_map (λ g. g.cpu) (group_named r) (find (λ g. bytes_eq g.name (name_at (group_names r) index)) r.scheduling.groups)
    ∙ ap (option_map (λ g. g.cpu)) (found_at_index (λ g. g.name) r.scheduling.groups index unique within)

-- a minor frame with the name of its group
abbrev pub frame_named : Resolution → MinorFrame → NamedMinor
frame_named r f = record { group = name_at (group_names r) f.group; ticks = f.ticks }

-- an entry has the ticks of its minor frames, by name or by index
pub ticks_named : (r : Resolution) (c : CpuFrames) → ticks_in (cpu_named r c) ≡ sum_by (λ f. f.ticks) c.minor_frames
ticks_named r c = sum_by-map (λ f. f.ticks) (frame_named r) c.minor_frames

-- the index of a group, by its name
pub index_of_group : (r : Resolution) (index : ℕ) → repeated (group_names r) ≡ None → index < length r.scheduling.groups
    → position (λ g. bytes_eq g.name (name_at (group_names r) index)) (map (group_named r) r.scheduling.groups) ≡ Some index
index_of_group r index unique within =
    let name = name_at (group_names r) index in
    let groups = map (group_named r) r.scheduling.groups in
    let many : length groups ≡ length r.scheduling.groups = length-map r.scheduling.groups (group_named r) in
    let names : length (group_names r) ≡ length r.scheduling.groups = length-map r.scheduling.groups (λ g. g.name) in
    let at : position_or_len (λ g. bytes_eq g.name name) groups ≡ index =
    position-map (λ g. bytes_eq g.name name) (group_named r) r.scheduling.groups
    ∙ sym (position-map (λ m. bytes_eq m name) (λ g. g.name) r.scheduling.groups)
    ∙ position_is (group_names r) index unique (omega (arith, names, within)) in
    ap (λ n. cond (nat_lt n (length groups)) (Some n) None) at
    ∙ ap (λ b. cond b (Some index) None) (lt-ltb index (length groups) (omega (arith, many, within)))
