-- What a lawful policy has of each subject, by indexes.
use Rattle.std.specs.Prelude.{◌≡◌, ◌≤◌, ◌==◌, Bool, map, nat_le, true}
use Rattle.std.specs.List.{All, IsDistinct, count_by, flat_map, list_all}
use Rattle.expand_grants.specs.ByIndex.{fits_msrs, ranges_at}
use Rattle.expand_grants.specs.Grants.{entry_raised, granted_windows, is_way}
use Rattle.expand_grants.specs.Numbered.{IsNamed, numbered_view}
use Rattle.expand_grants.specs.Ordered.{in_order}
use Rattle.expand_grants.specs.Raising.{event_entries_of, fits_channel_ends, fits_sources}
use Rattle.expand_grants.specs.Resources.{port_ranges_of}
use Rattle.policy_lawful.specs.Resolution.{Resolution, source_of, subject_named}
use Rattle.policy_lawful.specs.declared.resolved.Subject.{Subject}
use Rattle.policy_lawful.specs.Events.{event_of}
use Rattle.policy_lawful.specs.source.SourceWay.{SourceWay}
use Rattle.policy_lawful.specs.Views.{views_of}
use Rattle.policy_lawful.specs.declared.view.View.{View}

abbrev pub same_guest : View → View → Bool
same_guest a b = a.guest == b.guest

-- by guest address
abbrev pub is_lower_view : View → View → Bool
is_lower_view a b = nat_le a.guest b.guest

-- its numbers fit, its windows and its entries' ways differ, and what is granted by indexes is what the policy grants
pub record IsKept (r : Resolution) (s : Subject) : Type 0 where
  pub guests : IsDistinct same_guest (views_of r s)
  pub windows : map (numbered_view r s.name) (in_order is_lower_view (views_of r s)) ≡ granted_windows (source_of r) (subject_named r s)
  pub named : All (λ v. IsNamed r v v.shows) (views_of r s)
  pub ports : port_ranges_of (source_of r) (subject_named r s) ≡ flat_map (ranges_at r.devices) s.devices
  pub msrs : list_all fits_msrs s.msrs ≡ true
  pub sources : fits_sources s ≡ true
  pub ends : fits_channel_ends r s ≡ true
  pub events : (way : SourceWay) → entry_raised r (event_entries_of r s) way ≡ event_of (source_of r) (subject_named r s) way
  pub once : (way : SourceWay) → count_by (λ e. is_way way e.way) (event_entries_of r s) ≤ 1
