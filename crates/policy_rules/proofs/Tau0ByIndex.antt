-- Who chooses the major frames, by what subjects see.
use Rattle.std.proofs.Common.{◌≡◌, ℕ, true, List, map, Some, None, refl, sym, ap, ◌∙◌}
use Rattle.std.specs.Prelude.{◌&&◌, codes}
use Rattle.std.specs.Option.{option_or}
use Rattle.std.specs.List.{list_any}
use Rattle.std.specs.Str.{bytes_eq}
use Rattle.muen_num.specs.declared.access.AccessKind.TheVariants.{Write}
use Rattle.muen_num.specs.Search.{unless}
use Rattle.muen_num.proofs.Lists.{all_true, any_same, list_any-map}
use Rattle.muen_num.proofs.SearchLaws.{option_or-None}
use Rattle.policy_lawful.specs.Offences.{two}
use Rattle.policy_lawful.specs.Resolution.{IsResolved, Resolution, source_of, subject_named, subject_in_range}
use Rattle.policy_lawful.specs.Rules.{tau0_offence, writes}
use Rattle.policy_lawful.specs.declared.resolved.Subject.{Subject}
use Rattle.policy_lawful.proofs.SourceElements.{parts_in_range}
use Rattle.policy_lawful.specs.Thing.{region, same_thing}
use Rattle.policy_lawful.specs.Rights.{allows}
use Rattle.policy_lawful.specs.source.Subject.{Subject as NamedSubject}
use Rattle.policy_lawful.specs.source.Tau0.{Tau0}
use Rattle.policy_lawful.specs.Views.{thing_shown, view_window, views_of}
use Rattle.policy_lawful.specs.declared.view.Shown.{Shown}
use Rattle.policy_lawful.specs.declared.view.Shown.TheVariants.{Memory, Channel, Provided, Device, State}
use Rattle.policy_lawful.specs.declared.view.View.{View}
use Rattle.policy_lawful.proofs.WindowsByIndex.{windows_by_index}
use Rattle.policy_rules.specs.Tau0.{chooser_offence, is_chooser, is_on_named, is_own_region, may_write}

same_named : (r : Resolution) (name by : List ℕ) (v : View) (shows : Shown) → same_thing (thing_shown r by v shows) (region name) ≡ is_on_named name v shows
same_named r name by v (Memory index) = refl
same_named r name by v (Channel index) = refl
same_named r name by v (Provided index) = refl
same_named r name by v (Device device memory) = refl
same_named r name by v (State index) = refl

writes_named : (r : Resolution) (s : Subject) (name : List ℕ) → IsResolved r → subject_in_range r s ≡ true → writes (source_of r) name (subject_named r s) ≡ list_any (may_write name) (views_of r s)
writes_named r s name q h =
    ap (list_any (λ w. same_thing w.thing (region name) && allows w.rights Write)) (windows_by_index r s q h)
    ∙ list_any-map (λ w. same_thing w.thing (region name) && allows w.rights Write) (view_window r s.name) (views_of r s)
    ∙ any_same (λ v. same_thing (thing_shown r s.name v v.shows) (region name) && allows v.rights Write) (may_write name) (λ _. true)
    (λ v _. ap (λ b. b && allows v.rights Write) (same_named r name s.name v v.shows)) (views_of r s) (all_true (views_of r s))

choosers_named : (r : Resolution) (t : Tau0) → IsResolved r → list_any (λ s. bytes_eq s.name t.subject && writes (source_of r) t.region s) (map (subject_named r) r.subjects) ≡ list_any (is_chooser r t) r.subjects
choosers_named r t q =
    list_any-map (λ s. bytes_eq s.name t.subject && writes (source_of r) t.region s) (subject_named r) r.subjects
    ∙ any_same (λ s. bytes_eq s.name t.subject && writes (source_of r) t.region (subject_named r s)) (is_chooser r t) (subject_in_range r)
    (λ s h. ap (λ b. bytes_eq s.name t.subject && b) (writes_named r s t.region q h)) r.subjects (parts_in_range r q.in_range).subjects

declared_named : (r : Resolution) (name : List ℕ) → list_any (λ n. bytes_eq n name) (map (λ s. s.name) (map (subject_named r) r.subjects)) ≡ list_any (λ s. bytes_eq s.name name) r.subjects
declared_named r name =
    list_any-map (λ n. bytes_eq n name) (λ (s : NamedSubject). s.name) (map (subject_named r) r.subjects)
    ∙ list_any-map (λ (s : NamedSubject). bytes_eq s.name name) (subject_named r) r.subjects

pub chooser_by_index : (r : Resolution) (t : Tau0) → IsResolved r → chooser_offence r t ≡ tau0_offence (source_of r) (Some t)
unfolding source_of
chooser_by_index r t q =
    sym (
    ap (λ b. option_or (unless b (two (codes "tau0") t.subject)) (option_or (unless (list_any (is_own_region t.region) r.memory) (two (codes "tau0") t.region)) (option_or (unless (list_any (λ s. bytes_eq s.name t.subject && writes (source_of r) t.region s) (map (subject_named r) r.subjects)) (two (codes "tau0") t.region)) None))) (declared_named r t.subject)
    ∙ ap (λ o. option_or (unless (list_any (λ s. bytes_eq s.name t.subject) r.subjects) (two (codes "tau0") t.subject)) (option_or (unless (list_any (is_own_region t.region) r.memory) (two (codes "tau0") t.region)) o)) (option_or-None _)
    ∙ ap (λ b. option_or (unless (list_any (λ s. bytes_eq s.name t.subject) r.subjects) (two (codes "tau0") t.subject)) (option_or (unless (list_any (is_own_region t.region) r.memory) (two (codes "tau0") t.region)) (unless b (two (codes "tau0") t.region)))) (choosers_named r t q)
    )

pub no_chooser : (r : Resolution) → tau0_offence (source_of r) None ≡ None
no_chooser r = refl
