-- A subject with indexes for its references.
use Rattle.std.proofs.Common.{◌≡◌, ℕ, true, List, ◌++◌, length, map, Option, Some, None, refl, sym, ap, ◌∙◌}
use Rattle.std.specs.Prelude.{option_map, nat_lt}
use Rattle.std.specs.Option.{option_or, option_map_or}
use Rattle.std.specs.List.{flat_map, list_all}
use Rattle.std.proofs.lemmas.Bool.{and_from}
use Rattle.std.proofs.lemmas.List.{length-map}
use Rattle.muen_num.specs.Search.{first_in}
use Rattle.muen_num.proofs.Lists.{map-map}
use Rattle.muen_num.proofs.SearchLaws.{first_in-append, first_in-flat_map, first_over-map, option_or_assoc}
use Rattle.policy_lawful.specs.Offences.{broken}
use Rattle.policy_lawful.specs.Resolution.{component_named, component_in_range, subject_named, subject_in_range, name_at}
use Rattle.policy_lawful.specs.Rules.{Reference, component_references, device_references, subject_references, undeclared}
use Rattle.policy_lawful.specs.declared.offence.Offence.{Offence}
use Rattle.policy_lawful.specs.declared.resolved.EventSource.{EventSource as ResolvedSource}
use Rattle.policy_lawful.specs.declared.resolved.EventTarget.{EventTarget as ResolvedTarget}
use Rattle.policy_lawful.specs.declared.resolved.Monitor.{Monitor as ResolvedMonitor}
use Rattle.policy_lawful.specs.declared.resolved.Subject.{Subject as ResolvedSubject}
use Rattle.policy_lawful.specs.source.EventSource.{EventSource}
use Rattle.policy_lawful.specs.source.EventTarget.{EventTarget}
use Rattle.policy_lawful.specs.source.Monitor.{Monitor}
use Rattle.policy_lawful.specs.source.Source.{Source}
use Rattle.policy_lawful.specs.source.Subject.{Subject}
use Rattle.policy_names.specs.Outline.{bare_subject, bare_resolution}
use Rattle.policy_names.specs.Indexes.{StandsFor, all_below}
use Rattle.policy_names.specs.SubjectParts.{SignalsStand, WindowsStand, signals_offence, windows_offence}
use Rattle.policy_names.proofs.Refusals.{one_behind_another}

pub ruleset as_many = (length-map, one_behind_another)

-- ---- its signals

-- of three offences there is none
none_of : (number : ℕ) (a b c : Option Offence) → broken number a ≡ None → broken number b ≡ None → broken number c ≡ None → broken number (option_or a (option_or b c)) ≡ None
none_of number (Some x) b c none none_2 none_3 = absurd (cc)
none_of number None (Some x) c none none_2 none_3 = absurd (cc)
none_of number None None c none none_2 none_3 = none_3

-- indexes among the names of these elements are below the number of the elements
below : {X Y : Type 0} (index : X → ℕ) (f : Y → List ℕ) (ys : List Y) (xs : List X) → all_below index (length (map f ys)) xs ≡ true → all_below index (length ys) xs ≡ true
below index f ys xs h = sym (ap (λ n. all_below index n xs) (length-map ys f)) ∙ h

-- events and subjects, each list found among their names
pub signals_resolved : (p : Source) (s : Subject) (raised : List ResolvedSource) (heard : List ResolvedTarget) (watched : List ResolvedMonitor)
    → (broken 2 (first_in (λ e. undeclared s.name (map (λ x. x.name) p.events, e.event)) s.sources) ≡ None)
    × StandsFor {X = List ResolvedSource} {Y = List EventSource} (map (λ e. record { event = name_at (map (λ x. x.name) p.events) e.event; way = e.way })) (all_below (λ e. e.event) (length (map (λ x. x.name) p.events))) s.sources raised
    → (broken 2 (first_in (λ e. undeclared s.name (map (λ x. x.name) p.events, e.event)) s.targets) ≡ None)
    × StandsFor {X = List ResolvedTarget} {Y = List EventTarget} (map (λ e. record { event = name_at (map (λ x. x.name) p.events) e.event; vector = e.vector })) (all_below (λ e. e.event) (length (map (λ x. x.name) p.events))) s.targets heard
    → (broken 2 (first_in (λ m. undeclared s.name (map (λ x. x.name) p.subjects, m.subject)) s.monitors) ≡ None)
    × StandsFor {X = List ResolvedMonitor} {Y = List Monitor} (map (λ m. record { subject = name_at (map (λ x. x.name) p.subjects) m.subject; virtual_address = m.virtual_address; rights = m.rights })) (all_below (λ m. m.subject) (length (map (λ x. x.name) p.subjects))) s.monitors watched
    → (broken 2 (signals_offence p s) ≡ None) × SignalsStand p s raised heard watched
unfolding signals_offence
signals_resolved p s raised heard watched sources targets monitors = (
  none_of 2 _ _ _ sources.0 targets.0 monitors.0,
  record {
    sources = record { same = sources.1.same; there = below (λ e. e.event) (λ x. x.name) p.events raised sources.1.there };
    targets = record { same = targets.1.same; there = below (λ e. e.event) (λ x. x.name) p.events heard targets.1.there };
    monitors = record { same = monitors.1.same; there = below (λ m. m.subject) (λ x. x.name) p.subjects watched monitors.1.there };
  },
)

-- ---- the whole subject

-- rule 2, of one kind of a subject's references after another
pub in_turn : (p : Source) (s : Subject) → first_in (undeclared s.name) (subject_references p s)
    ≡ option_or (first_in (undeclared s.name) (component_references p s.component)) (option_or (windows_offence p s) (signals_offence p s))
unfolding windows_offence signals_offence
in_turn p s =
    let component = component_references p s.component in
    let regions : List Reference = map (λ m. (map (λ r. r.name) p.memory, m.region)) s.memory in
    let channels : List Reference = map (λ c. (map (λ c. c.name) p.channels, c.channel)) s.channels in
    let devices : List Reference = flat_map (device_references p) s.devices in
    let sources : List Reference = map (λ e. (map (λ e. e.name) p.events, e.event)) s.sources in
    let targets : List Reference = map (λ e. (map (λ e. e.name) p.events, e.event)) s.targets in
    let monitors : List Reference = map (λ m. (map (λ s. s.name) p.subjects, m.subject)) s.monitors in
    rw (
      first_in-append (undeclared s.name) (((((component ++ regions) ++ channels) ++ devices) ++ sources) ++ targets) monitors,
      first_in-append (undeclared s.name) ((((component ++ regions) ++ channels) ++ devices) ++ sources) targets,
      first_in-append (undeclared s.name) (((component ++ regions) ++ channels) ++ devices) sources,
      first_in-append (undeclared s.name) ((component ++ regions) ++ channels) devices,
      first_in-append (undeclared s.name) (component ++ regions) channels,
      first_in-append (undeclared s.name) component regions,
      first_over-map (λ m. (map (λ r. r.name) p.memory, m.region)) (undeclared s.name) s.memory,
      first_over-map (λ c. (map (λ c. c.name) p.channels, c.channel)) (undeclared s.name) s.channels,
      first_in-flat_map (undeclared s.name) (device_references p) s.devices,
      first_over-map (λ e. (map (λ e. e.name) p.events, e.event)) (undeclared s.name) s.sources,
      first_over-map (λ e. (map (λ e. e.name) p.events, e.event)) (undeclared s.name) s.targets,
      first_over-map (λ m. (map (λ s. s.name) p.subjects, m.subject)) (undeclared s.name) s.monitors,
    )
    (simp (option_or_assoc) refl)

pub ruleset in_stages = (in_turn, one_behind_another)

-- the subject with these indexes stands for it
pub stands : (p : Source) (s : Subject) (r : ResolvedSubject) → (r.name ≡ s.name) × ((r.cpu ≡ s.cpu) × ((r.entry ≡ s.entry) × (r.msrs ≡ s.msrs)))
    → StandsFor (option_map (component_named (bare_resolution p))) (λ c. option_map_or (component_in_range (bare_resolution p)) c true) s.component r.component
    → WindowsStand p s r.memory r.channels r.devices → SignalsStand p s r.sources r.targets r.monitors
    → StandsFor (subject_named (bare_resolution p)) (subject_in_range (bare_resolution p)) s r
stands p s r plain component windows signals =
    let names : map (λ x. x.name) (bare_resolution p).subjects ≡ map (λ x. x.name) p.subjects = map-map (λ x. x.name) bare_subject p.subjects in
    let many : length (bare_resolution p).subjects ≡ length p.subjects = length-map p.subjects bare_subject in
    let monitors : map (λ m. record { subject = name_at (map (λ x. x.name) (bare_resolution p).subjects) m.subject; virtual_address = m.virtual_address; rights = m.rights }) r.monitors ≡ s.monitors =
    ap (λ (n : List (List ℕ)). map (λ (m : ResolvedMonitor). record { subject = name_at n m.subject; virtual_address = m.virtual_address; rights = m.rights }) r.monitors) names ∙ signals.monitors.same in
    let monitored : list_all (λ m. nat_lt m.subject (length (bare_resolution p).subjects)) r.monitors ≡ true = ap (λ n. list_all (λ (m : ResolvedMonitor). nat_lt m.subject n) r.monitors) many ∙ signals.monitors.there in
    record {
      same = λ i. record {
        name = plain.0 i;
        cpu = plain.1.0 i;
        entry = plain.1.1.0 i;
        component = component.same i;
        memory = windows.regions.same i;
        channels = windows.channels.same i;
        devices = windows.devices.same i;
        msrs = plain.1.1.1 i;
        sources = signals.sources.same i;
        targets = signals.targets.same i;
        monitors = monitors i;
      };
      there = and_from _ _ (and_from _ _ (and_from _ _ (and_from _ _ (and_from _ _ (and_from _ _ component.there windows.regions.there) windows.channels.there) windows.devices.there) signals.sources.there) signals.targets.there) monitored;
    }
