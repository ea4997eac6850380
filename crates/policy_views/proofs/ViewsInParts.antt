-- The windows of a subject are those in front, those on what its component provides, and those behind.
use Rattle.std.proofs.Common.{◌≡◌, List, [], ◌++◌, map, Option, Some, None, refl, ◌∙◌}
use Rattle.std.specs.Prelude.{slice_get}
use Rattle.std.specs.Option.{option_map_or}
use Rattle.std.specs.List.{enumerate_from}
use Rattle.std.proofs.lemmas.List.{append_assoc}
use Rattle.policy_lawful.specs.ByIndex.{provided_at}
use Rattle.policy_lawful.specs.Resolution.{Resolution}
use Rattle.policy_lawful.specs.Views.{component_views, provided_view, use_views, views_of}
use Rattle.policy_lawful.specs.declared.resolved.ComponentUse.{ComponentUse}
use Rattle.policy_lawful.specs.declared.resolved.MapEntry.{MapEntry}
use Rattle.policy_lawful.specs.declared.resolved.Subject.{Subject}
use Rattle.policy_lawful.specs.source.Component.{Component}
use Rattle.policy_views.specs.Parts.{behind_views, component_asks, front_views, given_views, use_asks}

of_component : (r : Resolution) (entries : List MapEntry) (o : Option Component)
    → option_map_or (component_views r entries) o [] ≡ map provided_view (enumerate_from 0 (option_map_or (λ c. c.provides) o [])) ++ option_map_or (component_asks r entries) o []
of_component r entries None = refl
of_component r entries (Some c) = simp (append_assoc)

of_use : (r : Resolution) (used : Option ComponentUse) → use_views r used ≡ map provided_view (enumerate_from 0 (provided_at r.components used)) ++ use_asks r used
of_use r None = refl
of_use r (Some used) = of_component r used.map (slice_get r.components used.used)

pub in_parts : (r : Resolution) (s : Subject) → front_views r s ++ given_views r s ++ behind_views r s ≡ views_of r s
unfolding views_of
in_parts r s = simp (append_assoc, of_use r s.component)
