-- Rule 1: the names of each kind are unique, so each tells an index.
use Rattle.std.proofs.Common.{◌≡◌, ℕ, zero, suc, List, [], ◌∷◌, ◌++◌, map, Option, Some, None, refl, sym, ap, subst, ◌∙◌}
use Rattle.std.specs.Prelude.{not, slice_get}
use Rattle.std.specs.List.{flat_map}
use Rattle.std.proofs.lemmas.List.{append-nil, append_assoc}
use Rattle.muen_num.specs.Search.{first_in, first_after, unless}
use Rattle.std.specs.Str.{bytes_eq}
use Rattle.policy_lawful.specs.Offences.{alone}
use Rattle.policy_lawful.specs.Rules.{device_kinds, logical_names, offence_1, repeated}
use Rattle.policy_lawful.specs.Resolution.{IsResolved, Resolution, group_named, source_of, subject_named}
use Rattle.policy_lawful.specs.declared.offence.Offence.{Offence}
use Rattle.policy_types.specs.declared.source.Component.{Component}
use Rattle.policy_types.specs.declared.source.Device.{Device}
use Rattle.policy_types.specs.declared.source.Source.{Source}
use Rattle.muen_num.proofs.FirstPair.{first_pair-append}
use Rattle.muen_num.proofs.Lists.{map-map}
use Rattle.muen_num.proofs.SearchLaws.{none_append, none_both}

-- ---- lists that are joined

abbrev stood : List (List ℕ) → List ℕ → Option Offence
stood before x = first_in (λ a. unless (not (bytes_eq a x)) (alone x)) before

-- where none stands twice with these in front, none does without them
fewer_before : (front before xs : List (List ℕ)) → first_after stood (front ++ before) xs ≡ None → first_after stood before xs ≡ None
fewer_before front before [] h = refl
fewer_before front before (x ∷ xs) h =
    let both = none_both (stood (front ++ before) x) (first_after stood ((front ++ before) ++ x ∷ []) xs) h in
    let here = (none_append (λ a. unless {O = Offence} (not (bytes_eq a x)) (alone x)) front before both.0).1 in
    let later = fewer_before front (before ++ x ∷ []) xs (ap (λ b. first_after stood b xs) (sym (append_assoc front before (x ∷ []))) ∙ both.1) in
    rw (here, later) refl

-- names that are unique together are unique in each part
pub unique_parts : (xs ys : List (List ℕ)) → repeated (xs ++ ys) ≡ None → (repeated xs ≡ None) × (repeated ys ≡ None)
unique_parts xs ys h =
    let both = none_both (repeated xs) (first_after stood xs ys) (sym (first_pair-append (λ a b. unless (not (bytes_eq a b)) (alone b)) xs ys) ∙ h) in
    (both.0, fewer_before xs [] ys (ap (λ b. first_after stood b ys) (append-nil xs) ∙ both.1))

-- ---- of a source policy

-- the names of each kind are unique
pub record Unique (p : Source) : Type 0 where
  pub blocks : repeated (map (λ b. b.name) p.memory_blocks) ≡ None
  pub devices : repeated (map (λ d. d.name) p.devices) ≡ None
  pub parts_of_devices : first_in repeated (flat_map device_kinds p.devices) ≡ None
  pub regions : repeated (map (λ r. r.name) p.memory) ≡ None
  pub channels : repeated (map (λ c. c.name) p.channels) ≡ None
  pub components : repeated (map (λ c. c.name) p.components) ≡ None
  pub logical_names : first_in repeated (map logical_names p.components) ≡ None
  pub events : repeated (map (λ e. e.name) p.events) ≡ None
  pub subjects : repeated (map (λ s. s.name) p.subjects) ≡ None
  pub groups : repeated (map (λ g. g.name) p.scheduling.groups) ≡ None

-- so says rule 1
pub unique : (p : Source) → offence_1 p ≡ None → Unique p
unfolding offence_1
unique p h =
    let front = map (λ b. b.name) p.memory_blocks ∷ map (λ d. d.name) p.devices ∷ [] in
    let devices = flat_map device_kinds p.devices in
    let middle = (map (λ r. r.name) p.memory ++ map (λ c. c.name) p.channels) ∷ map (λ c. c.name) p.components ∷ [] in
    let logical = map logical_names p.components in
    let back = map (λ e. e.name) p.events ∷ map (λ s. s.name) p.subjects ∷ map (λ g. g.name) p.scheduling.groups ∷ [] in
    let d = none_append repeated (((front ++ devices) ++ middle) ++ logical) back h in
    let c = none_append repeated ((front ++ devices) ++ middle) logical d.0 in
    let b = none_append repeated (front ++ devices) middle c.0 in
    let a = none_append repeated front devices b.0 in
    let memory = unique_parts (map (λ r. r.name) p.memory) (map (λ c. c.name) p.channels) (none_both _ _ b.1).0 in
    record {
      blocks = (none_both _ _ a.0).0;
      devices = (none_both _ _ (none_both _ _ a.0).1).0;
      parts_of_devices = a.1;
      regions = memory.0;
      channels = memory.1;
      components = (none_both _ _ (none_both _ _ b.1).1).0;
      logical_names = c.1;
      events = (none_both _ _ d.1).0;
      subjects = (none_both _ _ (none_both _ _ d.1).1).0;
      groups = (none_both _ _ (none_both _ _ (none_both _ _ d.1).1).1).0;
    }

-- ---- of a device and of a component

-- the names of a device's memory, ports and interrupts
pub record UniqueParts (d : Device) : Type 0 where
  pub memory : repeated (map (λ m. m.name) d.memory) ≡ None
  pub io_ports : repeated (map (λ x. x.name) d.io_ports) ≡ None
  pub irqs : repeated (map (λ i. i.name) d.irqs) ≡ None

parts_among : (ds : List Device) (k : ℕ) (d : Device) → first_in repeated (flat_map device_kinds ds) ≡ None → slice_get ds k ≡ Some d → UniqueParts d
parts_among [] k d h is = absurd (cc)
parts_among (x ∷ xs) zero d h is =
    let same : x ≡ d = cc in
    let own = (none_append repeated (device_kinds x) (flat_map device_kinds xs) h).0 in
    subst UniqueParts same (record {
      memory = (none_both _ _ own).0;
      io_ports = (none_both _ _ (none_both _ _ own).1).0;
      irqs = (none_both _ _ (none_both _ _ (none_both _ _ own).1).1).0;
    })
parts_among (x ∷ xs) (suc k) d h is = parts_among xs k d (none_append repeated (device_kinds x) (flat_map device_kinds xs) h).1 is

-- of a device at an index they are unique
pub parts_unique : (p : Source) (k : ℕ) (d : Device) → offence_1 p ≡ None → slice_get p.devices k ≡ Some d → UniqueParts d
parts_unique p k d h is = parts_among p.devices k d (unique p h).parts_of_devices is

logical_among : (cs : List Component) (k : ℕ) (c : Component) → first_in repeated (map logical_names cs) ≡ None → slice_get cs k ≡ Some c → repeated (logical_names c) ≡ None
logical_among [] k c h is = absurd (cc)
logical_among (x ∷ xs) zero c h is = let same : x ≡ c = cc in subst (λ c. repeated (logical_names c) ≡ None) same (none_both _ _ h).0
logical_among (x ∷ xs) (suc k) c h is = logical_among xs k c (none_both _ _ h).1 is

-- the logical names of a component at an index are unique
pub logical_unique : (p : Source) (k : ℕ) (c : Component) → offence_1 p ≡ None → slice_get p.components k ≡ Some c → repeated (logical_names c) ≡ None
logical_unique p k c h is = logical_among p.components k c (unique p h).logical_names is

-- and so are those of what it brings along
pub provided_unique : (c : Component) → repeated (logical_names c) ≡ None → repeated (map (λ x. x.logical) c.provides) ≡ None
provided_unique c h =
    let provides = map (λ x. x.logical) c.provides in
    let memory = map (λ x. x.logical) c.memory in
    let channels = map (λ x. x.logical) c.channels in
    (unique_parts provides memory (unique_parts (provides ++ memory) channels h).0).0

-- ---- of a resolved policy

-- the names of its subjects and groups, by their indexes
abbrev pub subject_names : Resolution → List (List ℕ)
subject_names r = map (λ s. s.name) r.subjects

abbrev pub group_names : Resolution → List (List ℕ)
group_names r = map (λ g. g.name) r.scheduling.groups

-- and those of its channels and events
abbrev pub channel_names : Resolution → List (List ℕ)
channel_names r = map (λ c. c.name) r.channels

abbrev pub event_names : Resolution → List (List ℕ)
event_names r = map (λ e. e.name) r.events

-- the source policy's subjects have the names of the resolved one's
pub names_of_subjects : (r : Resolution) → map (λ s. s.name) (source_of r).subjects ≡ subject_names r
unfolding source_of
names_of_subjects r = map-map (λ s. s.name) (subject_named r) r.subjects

-- no two subjects have the same name
pub subjects_unique : (r : Resolution) → offence_1 (source_of r) ≡ None → repeated (subject_names r) ≡ None
subjects_unique r h = ap repeated (sym (names_of_subjects r)) ∙ (unique (source_of r) h).subjects

-- nor have two groups
pub groups_unique : (r : Resolution) → offence_1 (source_of r) ≡ None → repeated (group_names r) ≡ None
unfolding source_of
groups_unique r h = ap repeated (sym (map-map (λ g. g.name) (group_named r) r.scheduling.groups)) ∙ (unique (source_of r) h).groups

-- no two devices have, no two regions, channels or events
pub devices_unique : (r : Resolution) → IsResolved r → repeated (map (λ d. d.name) r.devices) ≡ None
unfolding source_of
devices_unique r h = (unique (source_of r) h.names).devices

pub regions_unique : (r : Resolution) → IsResolved r → repeated (map (λ x. x.name) r.memory) ≡ None
unfolding source_of
regions_unique r h = (unique (source_of r) h.names).regions

pub channels_unique : (r : Resolution) → IsResolved r → repeated (channel_names r) ≡ None
unfolding source_of
channels_unique r h = (unique (source_of r) h.names).channels

pub events_unique : (r : Resolution) → IsResolved r → repeated (event_names r) ≡ None
unfolding source_of
events_unique r h = (unique (source_of r) h.names).events

-- and no two logical names of a component are the same
pub unique_logical : (r : Resolution) → IsResolved r → (used : ℕ) (c : Component) → slice_get r.components used ≡ Some c → repeated (logical_names c) ≡ None
unfolding source_of
unique_logical r h used c is = logical_unique (source_of r) used c h.names is
