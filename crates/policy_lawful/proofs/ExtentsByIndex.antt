-- The windows of a subject as named ranges are those of its views.
use Rattle.std.proofs.Common.{◌≡◌, ℕ, true, List, map, refl, ap, ◌∙◌}
use Rattle.muen_num.proofs.Lists.{all_same, all_true, map-map}
use Rattle.policy_lawful.specs.Resolution.{IsResolved, Resolution, source_of, subject_in_range, subject_named}
use Rattle.policy_lawful.specs.Rules.{shown_name, window_extent, window_extents}
use Rattle.policy_lawful.specs.declared.resolved.Subject.{Subject}
use Rattle.policy_lawful.specs.Views.{thing_shown, view_extent, view_window, views_of}
use Rattle.policy_lawful.specs.declared.view.Shown.{Shown}
use Rattle.policy_lawful.specs.declared.view.Shown.TheVariants.{Memory, Channel, Provided as Given, Device, State}
use Rattle.policy_lawful.specs.declared.view.View.{View}
use Rattle.policy_lawful.proofs.WindowsByIndex.{windows_by_index}

-- what a view shows has the view's name
name_shown : (r : Resolution) (subject : List ℕ) (v : View) (shows : Shown) → shown_name (thing_shown r subject v shows) ≡ v.name
name_shown r subject v (Memory k) = refl
name_shown r subject v (Channel k) = refl
name_shown r subject v (Given k) = refl
name_shown r subject v (Device j k) = refl
name_shown r subject v (State k) = refl

same_extent : (r : Resolution) (subject : List ℕ) (v : View) → window_extent (view_window r subject v) ≡ view_extent v
same_extent r subject v = ap (λ name. record { name = name; address = v.guest; size = v.size }) (name_shown r subject v v.shows)

pub extents_by_index : (r : Resolution) (s : Subject) → IsResolved r → subject_in_range r s ≡ true → window_extents (source_of r) (subject_named r s) ≡ map view_extent (views_of r s)
unfolding window_extents
extents_by_index r s q h =
    let views = views_of r s in
    ap (map window_extent) (windows_by_index r s q h)
    ∙ map-map window_extent (view_window r s.name) views
    ∙ all_same (λ v. window_extent (view_window r s.name v)) view_extent (λ _. true) (λ v _. same_extent r s.name v) views (all_true views)
