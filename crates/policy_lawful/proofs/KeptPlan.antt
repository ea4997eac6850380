-- What the scheduling plan of a resolved policy has that keeps the rules.
use Rattle.std.proofs.Common.{◌≡◌, true, None}
use Rattle.std.specs.List.{list_all}
use Rattle.policy_lawful.specs.Lawful.{IsLawful}
use Rattle.policy_lawful.specs.Resolution.{IsResolved, Resolution, group_in_range, major_in_range, source_of}
use Rattle.policy_lawful.specs.Rules.{repeated}
use Rattle.policy_lawful.proofs.SourceElements.{parts_in_range}
use Rattle.policy_lawful.proofs.UniqueNames.{group_names, groups_unique}
use Rattle.policy_lawful.proofs.KeptCpus.{CpusKept, cpus_kept}
use Rattle.policy_lawful.proofs.KeptLimits.{LimitsKept, limits_kept}
use Rattle.policy_lawful.proofs.KeptMajors.{MajorsKept, majors_kept}
use Rattle.policy_lawful.proofs.KeptMembers.{MembersKept, members_kept}
use Rattle.policy_lawful.proofs.KeptRules.{rules_of}

pub record PlanKept (r : Resolution) : Type 0 where
  pub cpus : CpusKept (source_of r)
  pub limits : LimitsKept (source_of r)
  pub majors : MajorsKept (source_of r)
  pub members : MembersKept (source_of r)
  pub unique : repeated (group_names r) ≡ None
  pub groups_in_range : list_all (group_in_range r) r.scheduling.groups ≡ true
  pub majors_in_range : list_all (major_in_range r) r.scheduling.major_frames ≡ true

pub plan_kept : (r : Resolution) → IsResolved r → IsLawful (source_of r) → PlanKept r
plan_kept r resolved kept =
    let in_range = parts_in_range r resolved.in_range in
    record {
      cpus = cpus_kept (source_of r) (rules_of kept).rule_3;
      limits = limits_kept (source_of r) (rules_of kept).rule_20;
      majors = majors_kept (source_of r) (rules_of kept).rule_16;
      members = members_kept (source_of r) (rules_of kept).rule_17;
      unique = groups_unique r resolved.names;
      groups_in_range = in_range.groups;
      majors_in_range = in_range.majors;
    }
