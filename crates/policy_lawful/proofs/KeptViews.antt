-- Rule 4 by indexes: regions are laid, devices' memory is a range of physical memory, and views are ranges of guest
-- addresses.
use Rattle.std.proofs.Common.{◌≡◌, ℕ, true, Some, sym, ap, ◌∙◌}
use Rattle.std.specs.Prelude.{slice_get}
use Rattle.std.specs.List.{list_all}
use Rattle.std.proofs.lemmas.List.Folds.{list_all-map}
use Rattle.muen_num.proofs.Lists.{passes_at}
use Rattle.policy_lawful.specs.Lawful.{IsLawful}
use Rattle.policy_lawful.specs.Resolution.{IsResolved, Resolution, source_of, subject_named, subject_in_range}
use Rattle.policy_lawful.specs.Rules.{is_guest, is_laid, is_physical, window_extents}
use Rattle.policy_lawful.specs.Views.{view_extent, views_of}
use Rattle.policy_lawful.specs.declared.resolved.Subject.{Subject}
use Rattle.policy_lawful.proofs.ExtentsByIndex.{extents_by_index}
use Rattle.policy_lawful.proofs.KeptAddresses.{addresses_kept, is_memory}
use Rattle.policy_lawful.proofs.KeptRules.{rules_of}
use Rattle.policy_lawful.proofs.SourceElements.{parts_in_range}
use Rattle.policy_types.specs.declared.source.Device.{Device}
use Rattle.policy_types.specs.declared.source.DeviceMemory.{DeviceMemory}
use Rattle.policy_types.specs.declared.source.Region.{Region}

module _ (r : Resolution) (lawful : IsLawful (source_of r)) where
  pub laid_at : (n : ℕ) (m : Region) → slice_get r.memory n ≡ Some m → is_laid m ≡ true
  unfolding source_of
  laid_at n m e = passes_at is_laid r.memory n m (addresses_kept (source_of r) (rules_of lawful).rule_4).regions e

  pub physical_at : (n j : ℕ) (d : Device) (m : DeviceMemory) → slice_get r.devices n ≡ Some d → slice_get d.memory j ≡ Some m → is_physical m.physical_address m.size ≡ true
  unfolding source_of
  physical_at n j d m at e =
      passes_at is_memory d.memory j m
      (passes_at (λ d. list_all is_memory d.memory) r.devices n d (addresses_kept (source_of r) (rules_of lawful).rule_4).devices at) e

  pub views_kept : IsResolved r → (k : ℕ) (s : Subject) → slice_get r.subjects k ≡ Some s → list_all (λ v. is_guest v.guest v.size) (views_of r s) ≡ true
  unfolding source_of
  views_kept resolved k s at =
      let in_range = passes_at (subject_in_range r) r.subjects k s (parts_in_range r resolved.in_range).subjects at in
      let windows = addresses_kept (source_of r) (rules_of lawful).rule_4 in
      let each : list_all (λ e. is_guest e.address e.size) (window_extents (source_of r) (subject_named r s)) ≡ true =
      passes_at (λ s. list_all (λ e. is_guest e.address e.size) (window_extents (source_of r) (subject_named r s))) r.subjects k s
      (sym (list_all-map (λ s. list_all (λ e. is_guest e.address e.size) (window_extents (source_of r) s)) (subject_named r) r.subjects) ∙ windows.windows) at in
      sym (list_all-map (λ e. is_guest e.address e.size) view_extent (views_of r s))
      ∙ sym (ap (list_all (λ e. is_guest e.address e.size)) (extents_by_index r s resolved in_range)) ∙ each
