-- Rules 11 and 20: MSRs that are granted are those of MSR bitmaps, and few.
use Rattle.std.proofs.Common.{◌≡◌, ℕ, ◌≤◌, true, length, None, Some, sym, ap, ◌∙◌, subst}
use Rattle.std.specs.Prelude.{nat_le, slice_get}
use Rattle.std.specs.List.{list_all, sum_by}
use Rattle.std.proofs.lemmas.Bool.{and_parts, leb-true}
use Rattle.std.proofs.lemmas.List.Folds.{list_all-map}
use Rattle.expand_kernel.specs.Grants.{AreGrantsOf}
use Rattle.expand_kernel.specs.Resources.{msr_grant}
use Rattle.expand_kernel.specs.granted.Grants.{Grants}
use Rattle.msrbm_emit.specs.Area.{msr_count, size_of}
use Rattle.msrbm_emit.specs.Msrs.{is_covered}
use Rattle.muen_num.proofs.Lists.{passes_at, sum_by-map}
use Rattle.muen_num.specs.declared.limits.TheConstants.{MOST_MSRS, MOST_WINDOWS}
use Rattle.policy_lawful.specs.MoreRules.{is_msr_range, msrs_apart, offence_11}
use Rattle.policy_lawful.specs.Resolution.{Resolution, source_of, subject_named}
use Rattle.policy_lawful.specs.Rules.{msrs_in, offence_20, window_extents}
use Rattle.policy_lawful.specs.declared.resolved.Subject.{Subject}
use Rattle.policy_lawful.proofs.KeptLimits.{has_few, limits_kept}
use Rattle.policy_lawful.proofs.KeptMsrs.{has_ranges, msrs_kept}

module _ (r : Resolution) (k : ℕ) (s : Subject) (g : Grants) (at : slice_get r.subjects k ≡ Some s) (granted : AreGrantsOf r s g) where
  pub msrs_covered : offence_11 (source_of r) ≡ None → list_all is_covered g.msrs ≡ true
  unfolding source_of
  msrs_covered h =
      let ranges : has_ranges (subject_named r s) ≡ true =
      passes_at (λ s. has_ranges (subject_named r s)) r.subjects k s (sym (list_all-map has_ranges (subject_named r) r.subjects) ∙ msrs_kept (source_of r) h) at in
      ap (list_all is_covered) granted.msrs
      ∙ list_all-map is_covered msr_grant s.msrs
      ∙ (and_parts (list_all is_msr_range s.msrs) (msrs_apart s.msrs) ranges).0

  pub msrs_few : offence_20 (source_of r) ≡ None → msr_count g.msrs ≤ MOST_MSRS
  unfolding source_of msr_count
  msrs_few h =
      let few : has_few (source_of r) (subject_named r s) ≡ true =
      passes_at (λ s. has_few (source_of r) (subject_named r s)) r.subjects k s (sym (list_all-map (has_few (source_of r)) (subject_named r) r.subjects) ∙ (limits_kept (source_of r) h).subjects) at in
      let l : msrs_in (subject_named r s) ≤ MOST_MSRS = leb-true _ _ (and_parts (nat_le (length (window_extents (source_of r) (subject_named r s))) MOST_WINDOWS) (nat_le (msrs_in (subject_named r s)) MOST_MSRS) few).1 in
      let same : sum_by size_of g.msrs ≡ msrs_in (subject_named r s) = ap (sum_by size_of) granted.msrs ∙ sum_by-map size_of msr_grant s.msrs in
      subst (λ n. n ≤ MOST_MSRS) (sym same) l
