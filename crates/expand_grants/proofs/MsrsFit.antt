-- The numbers of a subject's MSRs fit.
use Rattle.std.proofs.Common.{◌≡◌, true, None, arith}
use Rattle.std.specs.Prelude.{◌&&◌}
use Rattle.std.specs.List.{list_all}
use Rattle.std.proofs.lemmas.Bool.{and_parts}
use Rattle.std.proofs.lemmas.Bool.Decides.{nat_tests}
use Rattle.std.proofs.lemmas.List.Folds.{list_all-map}
use Rattle.muen_num.proofs.Lists.{each_from}
use Rattle.muen_num.proofs.SearchLaws.{all_pass}
use Rattle.policy_lawful.specs.MoreRules.{is_msr_range, msrs_apart, offence_11}
use Rattle.policy_lawful.specs.Offences.{alone}
use Rattle.policy_lawful.specs.Resolution.{Resolution, source_of, subject_named}
use Rattle.policy_lawful.specs.source.Msrs.{Msrs}
use Rattle.expand_grants.specs.ByIndex.{fits_msrs}
use Rattle.std.proofs.Common.{sym, ◌∙◌}

fit : (m : Msrs) → is_msr_range m ≡ true → fits_msrs m ≡ true
fit m h = grind (arith, nat_tests, h)

pub msrs_fit : (r : Resolution) → offence_11 (source_of r) ≡ None → list_all (λ s. list_all fits_msrs s.msrs) r.subjects ≡ true
unfolding source_of offence_11
msrs_fit r h =
    each_from (λ s. list_all is_msr_range s.msrs && msrs_apart s.msrs) (λ s. list_all fits_msrs s.msrs)
    (λ s ok. each_from is_msr_range fits_msrs fit s.msrs (and_parts (list_all is_msr_range s.msrs) (msrs_apart s.msrs) ok).0)
    r.subjects
    (sym (list_all-map (λ s. list_all is_msr_range s.msrs && msrs_apart s.msrs) (subject_named r) r.subjects)
    ∙ all_pass (λ s. list_all is_msr_range s.msrs && msrs_apart s.msrs) (λ s. alone s.name) (source_of r).subjects h)
