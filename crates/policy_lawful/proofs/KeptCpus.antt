-- Rule 3: there are CPUs, as many as there may be, and each that is named is one of them.
use Rattle.std.proofs.Common.{◌≡◌, ◌≤◌, true, None}
use Rattle.std.specs.Prelude.{◌&&◌, nat_lt, nat_le, codes}
use Rattle.std.specs.List.{list_all}
use Rattle.std.proofs.lemmas.Bool.{and_parts, leb-true}
use Rattle.policy_lawful.specs.Rules.{cpu_name, major_name, majors_of, offence_3}
use Rattle.muen_num.specs.declared.limits.TheConstants.{MOST_CPUS}
use Rattle.muen_num.specs.Search.{first_in, unless}
use Rattle.policy_lawful.specs.Offences.{alone, two}
use Rattle.policy_types.specs.declared.source.Source.{Source}
use Rattle.muen_num.proofs.SearchLaws.{all_numbered, all_pass, none_both, unless_none}

pub record CpusKept (p : Source) : Type 0 where
  pub some : 1 ≤ p.processor.logical_cpus
  pub most : p.processor.logical_cpus ≤ MOST_CPUS
  pub subjects : list_all (λ s. nat_lt s.cpu p.processor.logical_cpus) p.subjects ≡ true
  pub groups : list_all (λ g. nat_lt g.cpu p.processor.logical_cpus) p.scheduling.groups ≡ true
  pub majors : list_all (λ m. list_all (λ c. nat_lt c.cpu p.processor.logical_cpus) m.cpus) p.scheduling.major_frames ≡ true

pub cpus_kept : (p : Source) → offence_3 p ≡ None → CpusKept p
unfolding offence_3
cpus_kept p h =
    let cpus = p.processor.logical_cpus in
    let number = none_both (unless (nat_le 1 cpus && nat_le cpus MOST_CPUS) (alone (codes "processor"))) _ h in
    let subjects = none_both (first_in (λ s. unless (nat_lt s.cpu cpus) (alone s.name)) p.subjects) _ number.1 in
    let groups = none_both (first_in (λ g. unless (nat_lt g.cpu cpus) (alone g.name)) p.scheduling.groups) _ subjects.1 in
    let majors = none_both (first_in (λ m. first_in (λ c. unless (nat_lt c.cpu cpus) (two (major_name m.0) (cpu_name c.cpu))) m.1.cpus) (majors_of p)) None groups.1 in
    let both = and_parts (nat_le 1 cpus) (nat_le cpus MOST_CPUS) (unless_none _ _ number.0) in
    record {
      some = leb-true 1 cpus both.0;
      most = leb-true cpus MOST_CPUS both.1;
      subjects = all_pass (λ s. nat_lt s.cpu cpus) (λ s. alone s.name) p.subjects subjects.0;
      groups = all_pass (λ g. nat_lt g.cpu cpus) (λ g. alone g.name) p.scheduling.groups groups.0;
      majors = all_numbered (λ m. list_all (λ c. nat_lt c.cpu cpus) m.cpus) (λ m. first_in (λ c. unless (nat_lt c.cpu cpus) (two (major_name m.0) (cpu_name c.cpu))) m.1.cpus)
          (λ k m none. all_pass (λ c. nat_lt c.cpu cpus) (λ c. two (major_name k) (cpu_name c.cpu)) m.cpus none) 0 p.scheduling.major_frames majors.0;
    }
