-- Rule 11: the MSRs that are granted to a subject are in ranges of MSRs that share none.
use Rattle.std.proofs.Common.{◌≡◌, Bool, true, None}
use Rattle.std.specs.Prelude.{◌&&◌}
use Rattle.std.specs.List.{list_all}
use Rattle.muen_num.proofs.SearchLaws.{all_pass}
use Rattle.policy_lawful.specs.MoreRules.{is_msr_range, msrs_apart, offence_11}
use Rattle.policy_lawful.specs.Offences.{alone}
use Rattle.policy_types.specs.declared.source.Source.{Source}
use Rattle.policy_types.specs.declared.source.Subject.{Subject}

abbrev pub has_ranges : Subject → Bool
has_ranges s = list_all is_msr_range s.msrs && msrs_apart s.msrs

pub msrs_kept : (p : Source) → offence_11 p ≡ None → list_all has_ranges p.subjects ≡ true
unfolding offence_11
msrs_kept p h = all_pass has_ranges (λ s. alone s.name) p.subjects h
