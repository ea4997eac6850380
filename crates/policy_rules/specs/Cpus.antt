-- Rule 3 of a resolved policy: CPUs.
use Rattle.std.specs.Prelude.{ℕ, ◌&&◌, List, nat_lt, nat_le, codes, Option}
use Rattle.std.specs.Option.{option_or}
use Rattle.std.specs.List.{enumerate_from}
use Rattle.muen_num.specs.declared.limits.TheConstants.{MOST_CPUS}
use Rattle.muen_num.specs.Search.{first_in, unless}
use Rattle.policy_lawful.specs.Offences.{alone, two}
use Rattle.policy_lawful.specs.Rules.{major_name, cpu_name}
use Rattle.policy_lawful.specs.declared.offence.Offence.{Offence}
use Rattle.policy_lawful.specs.declared.resolved.Group.{Group}
use Rattle.policy_lawful.specs.declared.resolved.MajorFrame.{MajorFrame}
use Rattle.policy_lawful.specs.declared.resolved.Subject.{Subject}

-- the CPUs of groups, then those of frames
abbrev pub plan_cpus_offence : ℕ → List Group → List MajorFrame → Option Offence
plan_cpus_offence cpus groups majors =
    option_or (first_in (λ g. unless (nat_lt g.cpu cpus) (alone g.name)) groups)
    (first_in (λ m. first_in (λ c. unless (nat_lt c.cpu cpus) (two (major_name m.0) (cpu_name c.cpu))) m.1.cpus) (enumerate_from 0 majors))

-- the number of CPUs, the CPUs of subjects, and those of the plan
abbrev pub cpus_offence : ℕ → List Subject → List Group → List MajorFrame → Option Offence
cpus_offence cpus subjects groups majors =
    option_or (option_or (unless (nat_le 1 cpus && nat_le cpus MOST_CPUS) (alone (codes "processor")))
    (first_in (λ s. unless (nat_lt s.cpu cpus) (alone s.name)) subjects))
    (plan_cpus_offence cpus groups majors)
