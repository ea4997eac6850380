-- Flows by monitors and by the choice of major frames, by names and by indexes.
use Rattle.std.proofs.Common.{◌≡◌, ℕ, Bool, true, false, length, map, Some, None, refl, sym, ◌∙◌}
use Rattle.std.specs.Prelude.{◌==◌, ◌&&◌, nat_lt, if◌then◌else◌}
use Rattle.std.specs.Option.{option_map_or}
use Rattle.std.specs.List.{filter_map}
use Rattle.std.specs.Str.{bytes_eq}
use Rattle.std.proofs.lemmas.Bool.{ltb-true}
use Rattle.muen_num.specs.declared.access.AccessKind.TheVariants.{Write}
use Rattle.muen_num.proofs.Lists.{list_any-map}
use Rattle.policy_lawful.specs.Resolution.{IsResolved, Resolution, name_at, source_of, subject_named}
use Rattle.policy_lawful.specs.declared.resolved.Monitor.{Monitor}
use Rattle.policy_lawful.specs.declared.resolved.Subject.{Subject}
use Rattle.policy_lawful.proofs.UniqueNames.{subject_names}
use Rattle.policy_lawful.specs.Rights.{allows}
use Rattle.policy_lawful.specs.source.Monitor.{Monitor as NamedMonitor}
use Rattle.policy_lawful.proofs.WindowsByIndex.{subject_parts}
use Rattle.policy_flows.specs.Flows.{by_change, by_plan, by_sight}
use Rattle.muen_num.proofs.Members.{any_agree, passes_in}
use Rattle.flow_report.specs.ByIndex.{is_frame_chooser, subject_changed}
use Rattle.muen_num.specs.Numbers.{is_among}
use Rattle.flow_report.proofs.IndexesOfSubjects.{At, any_filter_map, is_in_range, same_subject}

abbrev monitor_named : Resolution → Monitor → NamedMonitor
monitor_named r m = record { subject = name_at (subject_names r) m.subject; virtual_address = m.virtual_address; rights = m.rights }

pub plan_same : (r : Resolution) (u : Subject) → by_plan (source_of r) (subject_named r u) ≡ is_frame_chooser r.scheduling.tau0 u.name
unfolding source_of
plan_same r u = refl

turned_and : (a b c : Bool) → a ≡ c → (a && b) ≡ (if b then c else false)
turned_and true true c e = e
turned_and true false c e = refl
turned_and false true c e = e
turned_and false false c e = refl

changed_if : (b : Bool) (m k : ℕ) → option_map_or (λ y. y == k) (if b then Some m else None) false ≡ (if b then (m == k) else false)
changed_if true m k = refl
changed_if false m k = refl

module _ (r : Resolution) (q : IsResolved r) (i j : ℕ) (u s : Subject) (left : At r i u) (right : At r j s) where
  monitored : (k : ℕ) (t : Subject) → At r k t → (m : Monitor) → nat_lt m.subject (length r.subjects) ≡ true → bytes_eq (name_at (subject_names r) m.subject) t.name ≡ (m.subject == k)
  monitored k t h m l = same_subject r q m.subject k t h (ltb-true m.subject (length r.subjects) l)

  pub sight_same : by_sight (subject_named r u) (subject_named r s) ≡ is_among (map (λ m. m.subject) s.monitors) i
  sight_same =
      list_any-map (λ m. bytes_eq m.subject u.name) (monitor_named r) s.monitors
      ∙ any_agree (λ (m : Monitor). bytes_eq (name_at (subject_names r) m.subject) u.name) (λ m. m.subject == i) s.monitors
      (λ m h. monitored i u left m (passes_in (λ (m : Monitor). nat_lt m.subject (length r.subjects)) s.monitors (subject_parts r s (is_in_range r q j s right)).monitors m h))
      ∙ sym (list_any-map (λ y. y == i) (λ (m : Monitor). m.subject) s.monitors)

  pub change_same : by_change (subject_named r u) (subject_named r s) ≡ is_among (filter_map subject_changed u.monitors) j
  change_same =
      list_any-map (λ m. bytes_eq m.subject s.name && allows m.rights Write) (monitor_named r) u.monitors
      ∙ any_agree (λ (m : Monitor). bytes_eq (name_at (subject_names r) m.subject) s.name && allows m.rights Write) (λ m. option_map_or (λ y. y == j) (subject_changed m) false) u.monitors
      (λ m h.
      turned_and (bytes_eq (name_at (subject_names r) m.subject) s.name) (allows m.rights Write) (m.subject == j)
      (monitored j s right m (passes_in (λ (m : Monitor). nat_lt m.subject (length r.subjects)) u.monitors (subject_parts r u (is_in_range r q i u left)).monitors m h))
      ∙ sym (changed_if (allows m.rights Write) m.subject j))
      ∙ sym (any_filter_map (λ y. y == j) subject_changed u.monitors)
