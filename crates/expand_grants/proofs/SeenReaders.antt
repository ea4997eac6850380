-- What reads is noted subject by subject, by what the subject at each index sees.
use Rattle.std.proofs.Common.{◌≡◌, ℕ, ◌+◌, ◌<◌, ◌++◌, true, List, length, take, refl, sym, ap, subst, ◌∙◌}
use Rattle.std.specs.List.{enumerate_from, filter_map, flat_map, list_all}
use Rattle.std.proofs.lemmas.Option.{get_or_from_slice_get}
use Rattle.muen_num.proofs.Lists.{passes_at, there}
use Rattle.policy_lawful.specs.Resolution.{Resolution}
use Rattle.policy_lawful.specs.Views.{channel_ends_at}
use Rattle.policy_lawful.specs.declared.resolved.Subject.{Subject}
use Rattle.policy_lawful.proofs.SeenAtIndex.{channel_ends_there}
use Rattle.expand_grants.specs.Raising.{fits_channel_end, fits_channel_ends, reader_reached, subject_readers}
use Rattle.expand_grants.specs.declared.reached.Reached.{Reached}
use Rattle.expand_grants.proofs.Mapped.{flat_more}

module _ (r : Resolution) (read : List Subject) (k : ℕ) (same : read ≡ r.subjects) (within : k < length read) where
  inside : k < length r.subjects
  inside = subst (λ xs. k < length xs) same within

  -- the ends of the subject at the index fit
  pub ends_fit : list_all (fits_channel_ends r) r.subjects ≡ true → list_all fits_channel_end (channel_ends_at r k) ≡ true
  ends_fit all =
      let s = there r.subjects k inside in
      ap (list_all fits_channel_end) (channel_ends_there r k s.0 s.1) ∙ passes_at (fits_channel_ends r) r.subjects k s.0 all s.1

  -- those of one subject more
  pub readers_more : (before after : List Reached) → before ≡ flat_map (subject_readers r) (enumerate_from 0 (take k r.subjects))
      → after ≡ before ++ filter_map (λ e. reader_reached k e e.role) (channel_ends_at r k)
      → after ≡ flat_map (subject_readers r) (enumerate_from 0 (take (k + 1) r.subjects))
  readers_more before after noted is =
      let s = there r.subjects k inside in
      is
      ∙ ap (λ es. before ++ filter_map (λ e. reader_reached k e e.role) es) (channel_ends_there r k s.0 s.1)
      ∙ ap (λ xs. xs ++ subject_readers r (k, s.0)) noted
      ∙ sym (flat_more (subject_readers r) r.subjects r.subjects k s.0 s.0 refl inside (sym (get_or_from_slice_get r.subjects k s.0 s.0 s.1)))
