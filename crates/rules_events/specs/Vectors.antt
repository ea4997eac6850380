-- Rule 15 of a resolved policy: vectors.
use Rattle.std.specs.Prelude.{ℕ, ◌&&◌, ◌||◌, Bool, false, List, map, ◌++◌, Option, is_some, slice_get}
use Rattle.std.specs.Option.{option_map_or}
use Rattle.std.specs.List.{filter_map, flat_map, list_all}
use Rattle.muen_num.specs.Search.{unless}
use Rattle.policy_lawful.specs.MoreRules.{are_vectors, is_switch}
use Rattle.policy_lawful.specs.Offences.{alone}
use Rattle.policy_lawful.specs.Resolution.{Resolution}
use Rattle.policy_lawful.specs.declared.offence.Offence.{Offence}
use Rattle.policy_lawful.specs.declared.resolved.EventTarget.{EventTarget}
use Rattle.policy_lawful.specs.declared.resolved.Subject.{Subject}
use Rattle.policy_lawful.specs.source.Event.{Event}
use Rattle.policy_lawful.specs.Views.{channel_ends_of}
use Rattle.policy_lawful.specs.declared.view.IndexedEnd.{IndexedEnd}

-- the event at an index switches
abbrev pub switches : List Event → ℕ → Bool
switches events index = option_map_or (λ e. is_switch e.mode) (slice_get events index) false

abbrev pub target_has_vector : List Event → EventTarget → Bool
target_has_vector events t = is_some t.vector || switches events t.event

abbrev pub irq_vectors : Subject → List ℕ
irq_vectors s = flat_map (λ d. map (λ i. i.vector) d.irqs) s.devices

-- of a subject with these ends of channels
abbrev pub vectors_with : List IndexedEnd → Subject → List ℕ
vectors_with ends s = filter_map (λ t. t.vector) s.targets ++ filter_map (λ e. e.vector) ends ++ irq_vectors s

abbrev pub has_vectors_with : List Event → List IndexedEnd → Subject → Bool
has_vectors_with events ends s = list_all (target_has_vector events) s.targets && are_vectors (vectors_with ends s)

abbrev pub vectors_at : Resolution → Subject → List ℕ
vectors_at r s = vectors_with (channel_ends_of r s) s

abbrev pub has_vectors : Resolution → Subject → Bool
has_vectors r s = has_vectors_with r.events (channel_ends_of r s) s

abbrev pub vector_offence : Resolution → Subject → Option Offence
vector_offence r s = unless (has_vectors r s) (alone s.name)
