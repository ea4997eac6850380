-- The entries and routes of a lawful policy reach subjects that are there.
use Rattle.std.proofs.Common.{◌≡◌, ℕ, zero, suc, ◌<◌, ◌≤◌, true, List, [], ◌∷◌, length, map, Some, None, refl, ap, ◌∙◌, arith}
use Rattle.std.specs.Prelude.{nat_le, nat_lt, option_map, slice_get}
use Rattle.std.specs.Option.{option_map_or}
use Rattle.std.specs.List.{find, list_all}
use Rattle.std.proofs.lemmas.Bool.{and_from, and_parts, leb-true, ltb-true}
use Rattle.std.proofs.lemmas.List.{length-map}
use Rattle.std.proofs.lemmas.List.Folds.{list_all-map}
use Rattle.event_emit.specs.ByIndex.{event_part, has_letters, has_name, route_irq_target}
use Rattle.image_soundness.specs.TablesOf.{IsEntry}
use Rattle.image_pack.specs.ImageConditions.{IsReached}
use Rattle.event_emit.proofs.KeptEvents.{irq_reaches, is_raised, is_routed, raised_reaches}
use Rattle.policy_lawful.proofs.KeptRules.{rules_of}
use Rattle.policy_lawful.proofs.KeptVectors.{is_free}
use Rattle.expand_grants.specs.Grants.{AreRoutes, entry_raised, is_way, raised_named, route_for, target_named}
use Rattle.expand_grants.specs.declared.granted.EventEntry.{EventEntry}
use Rattle.expand_grants.specs.declared.granted.Route.{Route}
use Rattle.expand_kernel.specs.Expansion.{HaveNames}
use Rattle.image_pack.specs.Codes.{is_vector, vector_code}
use Rattle.muen_num.specs.Naming.{is_name, is_name_byte}
use Rattle.muen_num.specs.declared.limits.TheConstants.{FIRST_VECTOR, LAST_VECTOR, MOST_SUBJECTS}
use Rattle.policy_lawful.specs.Lawful.{IsLawful}
use Rattle.policy_lawful.specs.Resolution.{Resolution, name_at, source_of, subject_named}
use Rattle.policy_lawful.specs.declared.resolved.Subject.{Subject}
use Rattle.policy_lawful.proofs.KeptLimits.{limits_kept}
use Rattle.policy_lawful.proofs.SourceElements.{many_subjects}
use Rattle.policy_lawful.specs.Events.{event_of}
use Rattle.policy_lawful.specs.source.Device.{Device}
use Rattle.policy_lawful.specs.source.Irq.{Irq}
use Rattle.policy_lawful.specs.source.SourceWay.{SourceWay}

-- where a name isn't empty, it stands at an index that is there
named_within : (names : List (List ℕ)) (k : ℕ) → has_letters (name_at names k) ≡ true → k < length names
named_within [] k h = let l : 0 < 0 = ltb-true 0 0 h in absurd (omega arith)
named_within (n ∷ ns) zero h = omega arith
named_within (n ∷ ns) (suc k) h = let l : k < length ns = named_within ns k h in omega arith

-- no name is empty
name_has_letters : (name : List ℕ) → is_name name ≡ true → has_letters name ≡ true
unfolding is_name
name_has_letters name h = (and_parts (nat_lt 0 (length name)) _ (and_parts _ (list_all is_name_byte name) h).0).0

-- so no subject's is
pub with_letters : (subjects : List Subject) → HaveNames subjects → list_all has_name subjects ≡ true
with_letters [] h = refl
with_letters (s ∷ ss) h =
    let both = and_parts (is_name s.name) (list_all (λ x. is_name x.name) ss) h in
    and_from (has_name s) (list_all has_name ss) (name_has_letters s.name both.0) (with_letters ss both.1)

module _ (r : Resolution) (names : list_all has_name r.subjects ≡ true) (lawful : IsLawful (source_of r)) where
  source_names : list_all (λ s. has_letters s.name) (source_of r).subjects ≡ true
  unfolding source_of
  source_names = list_all-map (λ s. has_letters s.name) (subject_named r) r.subjects ∙ names

  pub few_subjects : length r.subjects ≤ 32
  few_subjects =
      let few : length (source_of r).subjects ≤ MOST_SUBJECTS = (limits_kept (source_of r) (rules_of lawful).rule_20).most_subjects in
      let many = many_subjects r in
      omega (arith, few, many)

  subject_within : (k : ℕ) → has_letters (name_at (map (λ s. s.name) r.subjects) k) ≡ true → k < length r.subjects
  subject_within k h =
      let l : k < length (map (λ (s : Subject). s.name) r.subjects) = named_within (map (λ s. s.name) r.subjects) k h in
      let many : length (map (λ (s : Subject). s.name) r.subjects) ≡ length r.subjects = length-map r.subjects (λ s. s.name) in
      omega (arith, l, many)

  entry_reaches : (e : EventEntry) → is_raised (raised_named r e) ≡ true → IsEntry (length r.subjects) (Some (event_part e))
  entry_reaches e h =
      let parts = and_parts (has_letters (name_at (map (λ s. s.name) r.subjects) e.target)) (is_vector e.mode (vector_code e.vector)) h in
      (subject_within e.target parts.0, parts.1)

  -- the entry for a way
  pub entry_found : (entries : List EventEntry) (s : Subject) (way : SourceWay) → entry_raised r entries way ≡ event_of (source_of r) (subject_named r s) way
      → IsEntry (length r.subjects) (option_map event_part (find (λ e. is_way way e.way) entries))
  entry_found entries s way same =
      elim (find (λ e. is_way way e.way) entries) as (λ o. option_map_or is_raised (option_map (raised_named r) o) true ≡ true → IsEntry (length r.subjects) (option_map event_part o)) [
        | None ↦ λ _. tt
        | Some e ↦ λ h. entry_reaches e h
      ] (ap (λ o. option_map_or is_raised o true) same ∙ raised_reaches (source_of r) source_names (rules_of lawful).rule_6 (rules_of lawful).rule_15 (subject_named r s) way)

  route_reaches : (t : Route) → is_routed (target_named r t.subject (Some t.vector)) ≡ true → IsReached (length r.subjects) (Some (route_irq_target t))
  route_reaches t h =
      let parts = and_parts (has_letters (name_at (map (λ s. s.name) r.subjects) t.subject)) (is_free t.vector) h in
      let free = and_parts (nat_le FIRST_VECTOR t.vector) (nat_le t.vector LAST_VECTOR) parts.1 in
      let most : t.vector ≤ 255 = leb-true t.vector LAST_VECTOR free.1 in
      (subject_within t.subject parts.0, leb-true FIRST_VECTOR t.vector free.0, omega (arith, most))

  -- the route of an interrupt
  pub route_found : (routes : List Route) (device irq : ℕ) (d : Device) (i : Irq) → AreRoutes r routes → slice_get r.devices device ≡ Some d → slice_get d.irqs irq ≡ Some i
      → IsReached (length r.subjects) (option_map route_irq_target (route_for routes device irq))
  route_found routes device irq d i are is in_it =
      elim (route_for routes device irq) as (λ o. option_map_or is_routed (option_map (λ (t : Route). target_named r t.subject (Some t.vector)) o) true ≡ true → IsReached (length r.subjects) (option_map route_irq_target o)) [
        | None ↦ λ _. tt
        | Some t ↦ λ h. route_reaches t h
      ] (ap (λ o. option_map_or is_routed o true) (are.each device irq d i is in_it) ∙ irq_reaches (source_of r) source_names (rules_of lawful).rule_6 (rules_of lawful).rule_15 d.name i.name)
