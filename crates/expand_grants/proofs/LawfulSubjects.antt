-- What a lawful policy has of its subjects: numbers that fit, windows and ways that differ, and what is granted by indexes.
use Rattle.std.proofs.Common.{◌≡◌, ℕ, ◌+◌, ◌<◌, true, List, [], ◌∷◌, ◌++◌, length, get_or, take, Some, refl, sym, ap, subst, ◌∙◌}
use Rattle.std.specs.Prelude.{slice_get}
use Rattle.std.specs.List.{AllZip, list_all}
use Rattle.std.proofs.lemmas.List.{take_more}
use Rattle.std.proofs.lemmas.Option.{slice_get_read}
use Rattle.muen_num.proofs.Lists.{passes_at}
use Rattle.policy_lawful.specs.Lawful.{IsLawful}
use Rattle.policy_lawful.specs.Resolution.{IsResolved, Resolution, source_of, subject_in_range}
use Rattle.policy_lawful.specs.declared.resolved.Subject.{Subject}
use Rattle.policy_lawful.proofs.KeptRules.{rules_of}
use Rattle.policy_lawful.proofs.SourceElements.{parts_in_range}
use Rattle.expand_grants.specs.ByIndex.{fits_device, fits_msrs, fits_uses}
use Rattle.expand_grants.specs.Kept.{IsKept}
use Rattle.expand_grants.specs.Raising.{fits_channel_ends, fits_sources, fits_targets}
use Rattle.expand_grants.proofs.EntriesByIndex.{events_by_index}
use Rattle.expand_grants.proofs.EntriesOnce.{entries_once}
use Rattle.expand_grants.proofs.MsrsFit.{msrs_fit}
use Rattle.expand_grants.proofs.NumbersFit.{all_channel_ends_fit, all_sources_fit, all_targets_fit, all_uses_fit}
use Rattle.expand_grants.proofs.PortsByIndex.{ports_by_index, ports_fit}
use Rattle.expand_grants.proofs.GrantedWindows.{views_named, windows_numbered}
use Rattle.expand_grants.proofs.WindowsInOrder.{guests_differ}

module _ (r : Resolution) (q : IsResolved r) (lawful : IsLawful (source_of r)) where
  pub targets_fit : list_all fits_targets r.subjects ≡ true
  targets_fit = all_targets_fit r q (rules_of lawful).rule_14 (rules_of lawful).rule_15

  pub channel_ends_fit : list_all (fits_channel_ends r) r.subjects ≡ true
  channel_ends_fit = all_channel_ends_fit r q (rules_of lawful).rule_14 (rules_of lawful).rule_15

  pub uses_fit : list_all fits_uses r.subjects ≡ true
  uses_fit = all_uses_fit r q (rules_of lawful).rule_14 (rules_of lawful).rule_15

  pub devices_fit : list_all fits_device r.devices ≡ true
  devices_fit = ports_fit r (rules_of lawful).rule_10

  -- of one of its subjects
  pub subject_kept : (k : ℕ) (s : Subject) → slice_get r.subjects k ≡ Some s → IsKept r s
  subject_kept k s at =
      let in_range = passes_at (subject_in_range r) r.subjects k s (parts_in_range r q.in_range).subjects at in
      record {
        guests = guests_differ r k s q (rules_of lawful).rule_4 (rules_of lawful).rule_5 at in_range;
        windows = windows_numbered r q k s at;
        named = views_named r q k s at;
        ports = ports_by_index r s q in_range;
        msrs = passes_at (λ s. list_all fits_msrs s.msrs) r.subjects k s (msrs_fit r (rules_of lawful).rule_11) at;
        sources = passes_at fits_sources r.subjects k s (all_sources_fit r q (rules_of lawful).rule_14 (rules_of lawful).rule_15) at;
        ends = passes_at (fits_channel_ends r) r.subjects k s channel_ends_fit at;
        events = events_by_index r k s q (rules_of lawful).rule_6 (rules_of lawful).rule_12 at in_range;
        once = entries_once r k s q (rules_of lawful).rule_14 (rules_of lawful).rule_15 at in_range;
      }

  -- of one that is read off the list of them
  pub read_kept : (read : List Subject) (i : ℕ) (s : Subject) → read ≡ r.subjects → i < length read → s ≡ get_or read i s → IsKept r s
  read_kept read i s same within is =
      subject_kept i s (ap (λ xs. slice_get xs i) (sym same) ∙ slice_get_read read (length read) i s refl within is)

-- ---- two lists, one element more each

pub zip_push : {A B : Type 0} (R : A → B → Type 0) (xs : List A) (ys : List B) (x : A) (y : B) → AllZip R xs ys → R x y → AllZip R (xs ++ x ∷ []) (ys ++ y ∷ [])
zip_push R [] [] x y h p = (p, tt)
zip_push R [] (z ∷ ys) x y h p = absurd h
zip_push R (z ∷ xs) [] x y h p = absurd h
zip_push R (z ∷ xs) (w ∷ ys) x y h p = (h.0, zip_push R xs ys x y h.1 p)

-- one of a list more that is read
pub zip_more : {A B : Type 0} (R : A → B → Type 0) (xs read : List A) (i : ℕ) (x : A) (ys now : List B) (y : B) → read ≡ xs → i < length read → x ≡ get_or read i x → AllZip R (take i xs) ys → R x y → now ≡ ys ++ y ∷ []
    → AllZip R (take (i + 1) xs) now
zip_more R xs read i x ys now y same within is h p grown =
    let here : i < length xs = subst (λ zs. i < length zs) same within in
    let at : x ≡ get_or xs i x = is ∙ ap (λ zs. get_or zs i x) same in
    let more : take i xs ++ x ∷ [] ≡ take (i + 1) xs = ap (λ z. take i xs ++ z ∷ []) at ∙ sym (take_more xs i x here) in
    subst (λ zs. AllZip R zs now) more (subst (AllZip R (take i xs ++ x ∷ [])) (sym grown) (zip_push R (take i xs) ys x y h p))
