-- Rule 17 of a resolved policy: groups and their members, with the subjects by their indexes.
use Rattle.std.specs.Prelude.{◌≡◌, ◌<◌, min, ℕ, ◌==◌, ◌&&◌, not, Bool, List, length, slice_get, slice_index, Option, option_map}
use Rattle.std.specs.Option.{option_or}
use Rattle.std.specs.List.{list_all, sum_by, enumerate_from}
use Rattle.muen_num.specs.Search.{first_in, unless}
use Rattle.policy_lawful.specs.Counts.{times_among}
use Rattle.policy_lawful.specs.Offences.{alone}
use Rattle.policy_lawful.specs.Rules.{is_on}
use Rattle.policy_lawful.specs.declared.offence.Offence.{Offence}
use Rattle.policy_lawful.specs.declared.resolved.Subject.{Subject}
use Rattle.policy_lawful.specs.declared.resolved.Group.{Group}

-- the CPU of the subject at an index
abbrev pub cpu_of_subject : List Subject → ℕ → Option ℕ
cpu_of_subject subjects index = option_map (λ s. s.cpu) (slice_get subjects index)

abbrev pub is_subject_on_cpu : List Subject → ℕ → ℕ → Bool
is_subject_on_cpu subjects cpu index = is_on (cpu_of_subject subjects index) cpu

abbrev pub is_resolved_group : List Subject → Group → Bool
is_resolved_group subjects g = not (length g.subjects == 0) && list_all (is_subject_on_cpu subjects g.cpu) g.subjects

abbrev pub group_offence : List Subject → Group → Option Offence
group_offence subjects g = unless (is_resolved_group subjects g) (alone g.name)

-- how often an index stands among the members of these groups
abbrev pub times_in : List Group → ℕ → ℕ
times_in groups index = sum_by (λ g. times_among g.subjects index) groups

-- a subject with its index, that isn't listed once
abbrev pub member_offence : List Group → ℕ × Subject → Option Offence
member_offence groups (index, s) = unless (times_in groups index == 1) (alone s.name)

-- so many counts are of the members of these groups; counts of 2 and more are alike
abbrev pub AreMemberCounts : List ℕ → ℕ → List Group → Type 0
AreMemberCounts times count groups = (k : ℕ) → k < count → min 2 (slice_index times k) ≡ min 2 (times_in groups k)

-- the groups, then the subjects
abbrev pub groups_offence : List Subject → List Group → Option Offence
groups_offence subjects groups =
    option_or (first_in (group_offence subjects) groups) (first_in (member_offence groups) (enumerate_from 0 subjects))

-- a subject with its index, that wasn't met once by these counts
abbrev pub counted_offence : List ℕ → ℕ × Subject → Option Offence
counted_offence times (index, s) = unless (slice_index times index == 1) (alone s.name)
