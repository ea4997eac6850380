-- Rule 3 of a resolved policy is that of its source policy, whose elements have the same CPUs.
use Rattle.std.proofs.Common.{◌≡◌, ℕ}
use Rattle.std.specs.Prelude.{nat_lt}
use Rattle.muen_num.specs.Search.{first_in, unless}
use Rattle.muen_num.proofs.SearchLaws.{first_over-map, option_or-None, option_or_assoc}
use Rattle.policy_lawful.specs.Offences.{two}
use Rattle.policy_lawful.specs.Rules.{major_name, cpu_name, offence_3}
use Rattle.policy_lawful.specs.Resolution.{Resolution, cpu_named, major_named, source_of}
use Rattle.policy_lawful.specs.declared.offence.Offence.{Offence}
use Rattle.policy_lawful.specs.declared.resolved.MajorFrame.{MajorFrame}
use Rattle.policy_lawful.specs.source.CpuFrames.{CpuFrames as NamedCpu}
use Rattle.policy_rules.specs.Cpus.{cpus_offence}
use Rattle.muen_num.proofs.SameAnswers.{both_named}

major_cpus : (r : Resolution) (cpus k : ℕ) (m : MajorFrame) → first_in {O = Offence} (λ c. unless (nat_lt c.cpu cpus) (two (major_name k) (cpu_name c.cpu))) (major_named r m).cpus ≡ first_in (λ c. unless (nat_lt c.cpu cpus) (two (major_name k) (cpu_name c.cpu))) m.cpus
major_cpus r cpus k m =
    first_over-map (cpu_named r) (λ (c : NamedCpu). unless {O = Offence} (nat_lt c.cpu cpus) (two (major_name k) (cpu_name c.cpu))) m.cpus

pub cpus_by_index : (r : Resolution) → cpus_offence r.processor.logical_cpus r.subjects r.scheduling.groups r.scheduling.major_frames ≡ offence_3 (source_of r)
unfolding offence_3 source_of
cpus_by_index r =
    let cpus = r.processor.logical_cpus in
    let majors = both_named {O = Offence} (λ m. first_in (λ c. unless (nat_lt c.cpu cpus) (two (major_name m.0) (cpu_name c.cpu))) m.1.cpus) (λ m. first_in (λ c. unless (nat_lt c.cpu cpus) (two (major_name m.0) (cpu_name c.cpu))) m.1.cpus) (major_named r) (λ k m. major_cpus r cpus k m) r.scheduling.major_frames in
    simp (option_or_assoc, option_or-None, first_over-map, majors)
