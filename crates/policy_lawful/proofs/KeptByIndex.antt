-- What the scheduling plan of a resolved policy has that keeps the rules, by the indexes of its subjects and groups.
use Rattle.std.proofs.Common.{◌≡◌, Bool, true, length, map, sym, ap, ◌∙◌}
use Rattle.std.specs.Prelude.{◌&&◌, nat_lt, nat_le}
use Rattle.std.specs.List.{list_all}
use Rattle.std.proofs.lemmas.Bool.{and_from, and_parts}
use Rattle.std.proofs.lemmas.List.{length-map}
use Rattle.std.proofs.lemmas.List.Folds.{list_all-map}
use Rattle.muen_num.specs.declared.limits.TheConstants.{MOST_MINOR_FRAMES, MOST_TICKS}
use Rattle.policy_lawful.specs.Resolution.{Resolution, cpu_named, group_in_range, group_named, major_named, name_at, source_of}
use Rattle.policy_lawful.specs.ByIndex.{is_short}
use Rattle.policy_lawful.specs.Rules as rules
use Rattle.policy_lawful.specs.Rules.{is_group, is_on, subject_cpu}
use Rattle.policy_lawful.specs.declared.resolved.CpuFrames.{CpuFrames}
use Rattle.policy_lawful.specs.declared.resolved.Group.{Group}
use Rattle.policy_lawful.specs.declared.resolved.MinorFrame.{MinorFrame}
use Rattle.muen_num.proofs.Lists.{each_from, each_of}
use Rattle.policy_lawful.proofs.KeptPlan.{PlanKept}
use Rattle.policy_lawful.proofs.SourceElements.{frame_named, ticks_named}

-- ---- groups

-- it has a member, and its members are there
abbrev pub has_members : Resolution → Group → Bool
has_members r g = nat_lt 0 (length g.subjects) && list_all (λ i. nat_lt i (length r.subjects)) g.subjects

some_member : (r : Resolution) (g : Group) → is_group (source_of r) (group_named r g) ≡ true → nat_lt 0 (length g.subjects) ≡ true
some_member r g h =
    let names = map (name_at (map (λ s. s.name) r.subjects)) g.subjects in
    let some = (and_parts (nat_lt 0 (length names)) (list_all (λ name. is_on (subject_cpu (source_of r) name) g.cpu) names) h).0 in
    ap (nat_lt 0) (sym (length-map g.subjects (name_at (map (λ s. s.name) r.subjects)))) ∙ some

pub members_there : (r : Resolution) → PlanKept r → list_all (has_members r) r.scheduling.groups ≡ true
unfolding source_of
members_there r k =
    each_of (λ g. is_group (source_of r) (group_named r g)) (group_in_range r) (has_members r)
    (λ g some in_range. and_from (nat_lt 0 (length g.subjects)) (list_all (λ i. nat_lt i (length r.subjects)) g.subjects) (some_member r g some) in_range)
    r.scheduling.groups
    (sym (list_all-map (is_group (source_of r)) (group_named r) r.scheduling.groups) ∙ k.members.groups)
    k.groups_in_range

pub cpus_of_groups : (r : Resolution) → PlanKept r → list_all (λ g. nat_lt g.cpu r.processor.logical_cpus) r.scheduling.groups ≡ true
unfolding source_of
cpus_of_groups r k =
    sym (list_all-map (λ g. nat_lt g.cpu r.processor.logical_cpus) (group_named r) r.scheduling.groups) ∙ k.cpus.groups

-- ---- major frames

abbrev pub frame_there : Resolution → MinorFrame → Bool
frame_there r f = nat_lt f.group (length r.scheduling.groups)

abbrev pub entry_there : Resolution → CpuFrames → Bool
entry_there r c = list_all (frame_there r) c.minor_frames

-- the limits, by the entries' indexes
pub entries_within : (r : Resolution) → PlanKept r → list_all (λ m. list_all is_short m.cpus) r.scheduling.major_frames ≡ true
unfolding source_of
entries_within r k =
    let one : (c : CpuFrames) → rules.is_short (cpu_named r c) ≡ true → is_short c ≡ true = λ c h.
    let many : length (cpu_named r c).minor_frames ≡ length c.minor_frames = length-map c.minor_frames (frame_named r) in
    sym (λ i. nat_le (ticks_named r c i) MOST_TICKS && nat_le (many i) MOST_MINOR_FRAMES) ∙ h in
    each_from (λ m. list_all rules.is_short (major_named r m).cpus) (λ m. list_all is_short m.cpus)
    (λ m h. each_from (λ c. rules.is_short (cpu_named r c)) is_short one m.cpus (sym (list_all-map rules.is_short (cpu_named r) m.cpus) ∙ h))
    r.scheduling.major_frames
    (sym (list_all-map (λ m. list_all rules.is_short m.cpus) (major_named r) r.scheduling.major_frames) ∙ k.limits.frames)
