-- Windows by the numbers of what they show.
use Rattle.std.specs.Prelude.{◌≡◌, ℕ, ◌<◌, ◌&&◌, Bool, List, length, slice_get, Option, Some, option_map}
use Rattle.std.specs.Option.{option_map_or}
use Rattle.std.specs.Str.{bytes_eq}
use Rattle.expand_grants.specs.Grants.{numbered_window}
use Rattle.expand_grants.specs.declared.granted.GrantedWindow.{GrantedWindow}
use Rattle.muen_num.specs.contracts.tag.TagPartPartialEq.TheImpl.{eq-value as same_part}
use Rattle.muen_num.specs.declared.limits.TheConstants.{PAGE}
use Rattle.muen_num.specs.declared.tag.Tag.{Tag}
use Rattle.muen_num.specs.declared.tag.TagPart.TheVariants.{State as States}
use Rattle.policy_lawful.specs.contracts.thing.RegionKindPartialEq.TheImpl.{eq-value as same_kind}
use Rattle.policy_lawful.specs.Resolution.{Resolution, source_of}
use Rattle.policy_lawful.specs.Things.{subject_number, things_by_number}
use Rattle.policy_lawful.specs.Views.{view_window}
use Rattle.policy_lawful.specs.declared.thing.RegionKind.{RegionKind}
use Rattle.policy_lawful.specs.declared.thing.Thing.{Thing}
use Rattle.policy_lawful.specs.declared.thing.ThingIndex.{ThingIndex}
use Rattle.policy_lawful.specs.declared.thing.ThingIndex.TheVariants.{Declared, State as StatePage}
use Rattle.policy_lawful.specs.declared.view.Shown.{Shown}
use Rattle.policy_lawful.specs.declared.view.Shown.TheVariants.{Memory, Channel, Provided, Device, State}
use Rattle.policy_lawful.specs.declared.view.View.{View}
use Rattle.policy_lawful.specs.rights.Caching.{Caching}
use Rattle.policy_lawful.specs.rights.Caching.TheVariants.{Wb}

-- ---- numbers

-- a thing is of this kind and has this printed name
abbrev pub is_called : RegionKind → Tag → Thing → Bool
is_called kind tag t = same_kind.it t.kind kind && (bytes_eq t.tag.owner tag.owner && same_part.it t.tag.part tag.part)

-- the device whose memory a view shows is there; the state page that it shows is that of the subject of its name
abbrev pub IsNamed : Resolution → View → Shown → Type 0
IsNamed r v (Memory n) = Unit {0}
IsNamed r v (Channel n) = Unit {0}
IsNamed r v (Provided n) = Unit {0}
IsNamed r v (Device device n) = device < length r.devices
IsNamed r v (State other) = subject_number (source_of r) v.name ≡ other

-- a view of the subject of this name, with the number of what it shows
abbrev pub numbered_view : Resolution → List ℕ → View → GrantedWindow
numbered_view r subject v = numbered_window (source_of r) (view_window r subject v)

-- ---- what windows show is there

-- the bytes of what has this number, if it is there
abbrev pub thing_size : Resolution → ThingIndex → Option ℕ
thing_size r (Declared n) = option_map (λ t. t.size) (slice_get (things_by_number r) n)
thing_size r (StatePage k) = option_map (λ _. PAGE) (slice_get r.subjects k)

-- its printed name
abbrev pub shown_tag : Resolution → ThingIndex → Option Tag
shown_tag r (Declared n) = option_map (λ t. t.tag) (slice_get (things_by_number r) n)
shown_tag r (StatePage k) = option_map (λ s. record { owner = s.name; part = States }) (slice_get r.subjects k)

-- its memory type; of a state page, and where nothing is there, write-back
abbrev pub caching_of : Resolution → ThingIndex → Caching
caching_of r (Declared n) = option_map_or (λ t. t.caching) (slice_get (things_by_number r) n) Wb
caching_of r (StatePage k) = Wb

-- the window shows the whole of something that is there
abbrev pub IsWhole : Resolution → GrantedWindow → Type 0
IsWhole r w = thing_size r w.thing ≡ Some w.size
