-- The windows by the numbers of what they show are the policy's, where an image has as many things and subjects.
use Rattle.std.proofs.Common.{◌≡◌, List, [], ◌∷◌, length, map, refl, sym, ap, ◌∙◌}
use Rattle.std.specs.List.{AllZip, zip}
use Rattle.std.proofs.lemmas.Slice.Zip.{AllZip-long}
use Rattle.ept_check.specs.window.Leaf.TheVariants.{Small}
use Rattle.expand_kernel.specs.Expansion.{Expansion, IsExpanded}
use Rattle.expand_kernel.specs.Grants.{AreGrantsOf, is_lower, numbered_window}
use Rattle.expand_kernel.specs.Ordered.{in_order}
use Rattle.expand_kernel.specs.granted.Grants.{Grants}
use Rattle.image_pack.specs.declared.parts.Image.{Image}
use Rattle.image_pack.specs.declared.parts.SubjectPart.{SubjectPart}
use Rattle.image_soundness.proofs.AddressesByNumber.{address_by_number}
use Rattle.image_soundness.specs.Sound.{AreContents, IsSpanOf, thing_spans}
use Rattle.image_verify.specs.ByNumber.{all_numbered_on, numbered_on, tables_by_number, tables_granted}
use Rattle.image_verify.specs.Windows.{tables_of_subject, tables_of_subjects, window_on, windows_on}
use Rattle.muen_num.proofs.Lists.{map-map, map_same}
use Rattle.policy_lawful.specs.Contents.{Held}
use Rattle.policy_lawful.specs.Resolution.{Resolution, source_of, subject_named}
use Rattle.policy_lawful.specs.Thing.{Thing, things_of}
use Rattle.policy_lawful.specs.Windows.{Window, windows_of}
use Rattle.policy_lawful.specs.declared.resolved.Subject.{Subject}
use Rattle.policy_lawful.specs.rights.Caching.TheVariants.{Wb}
use Rattle.policy_lawful.specs.source.Source.{Source}

module _ (r : Resolution) (i : Image) (spans : length (thing_spans i) ≡ length (things_of (source_of r))) (many : length i.subjects ≡ length (source_of r).subjects) where
  abbrev p : Source
  p = source_of r

  same_window : (w : Window Thing) → numbered_on i (numbered_window p w) ≡ window_on p i w
  same_window w =
      λ j. record { guest = w.guest; size = w.size; address = sym (address_by_number p i spans many w.thing) j; rights = w.rights; caching = Wb; leaf = Small }

  same_windows : (s : Subject) (g : Grants) → AreGrantsOf r s g → all_numbered_on i g.windows ≡ windows_on p i (subject_named r s)
  same_windows s g granted =
      let ordered = in_order is_lower (windows_of p (subject_named r s)) in
      ap (all_numbered_on i) granted.windows ∙ map-map (numbered_on i) (numbered_window p) ordered ∙ map_same (λ w. numbered_on i (numbered_window p w)) (window_on p i) same_window ordered

  each : (ss : List Subject) (gs : List Grants) (qs : List SubjectPart) → AllZip (AreGrantsOf r) ss gs → map (tables_granted i) (zip gs qs) ≡ map (tables_of_subject p i) (zip (map (subject_named r) ss) qs)
  each [] [] qs h = refl
  each [] (g ∷ gs) qs h = absurd h
  each (s ∷ ss) [] qs h = absurd h
  each (s ∷ ss) (g ∷ gs) [] h = refl
  each (s ∷ ss) (g ∷ gs) (q ∷ qs) h = λ j. record { eptp = q.eptp; windows = same_windows s g h.0 j } ∷ each ss gs qs h.1 j

-- **they are the policy's**
pub same_tables_by_number : (x : Expansion) (files : Held) (i : Image) → IsExpanded x → AreContents (source_of x.lawful) files i → length i.subjects ≡ length (source_of x.lawful).subjects
    → tables_by_number x.grants i ≡ tables_of_subjects (source_of x.lawful) i
unfolding tables_by_number tables_of_subjects source_of
same_tables_by_number x files i h contents many =
    let spans = AllZip-long (IsSpanOf (source_of x.lawful) files) (things_of (source_of x.lawful)) (thing_spans i) contents in
    each x.lawful i spans many x.lawful.subjects x.grants i.subjects h.expansion.grants
