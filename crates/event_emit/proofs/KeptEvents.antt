-- Whom the events and interrupts of a policy reach, where its rules are kept: a subject with a name, under a vector that
-- isn't kept for exceptions.
use Rattle.std.proofs.Common.{◌≡◌, ℕ, Bool, true, false, List, [], ◌∷◌, map, Option, Some, None, refl, sym, ap, ◌∙◌}
use Rattle.std.specs.Prelude.{◌==◌, ◌&&◌, ◌||◌, not, filter, is_some, option_and_then, option_map, slice_get}
use Rattle.std.specs.Option.{option_map_or, option_or}
use Rattle.std.specs.List.{find, flat_map, list_all}
use Rattle.std.specs.Str.{bytes_eq}
use Rattle.std.proofs.lemmas.Bool.{and_from, and_parts}
use Rattle.std.proofs.lemmas.List.Folds.{list_all-map}
use Rattle.std.proofs.lemmas.Slice.Eq.{bytes_eq-Decides}
use Rattle.event_emit.specs.ByIndex.{has_letters}
use Rattle.policy_lawful.proofs.EachPasses.{all_filter, all_flat}
use Rattle.image_pack.specs.Codes.{is_switch as switches, is_vector, vector_code}
use Rattle.muen_num.proofs.Lists.{each_of, found_among}
use Rattle.muen_num.proofs.Lookups.{found_passes}
use Rattle.muen_num.proofs.SearchLaws.{all_pass}
use Rattle.muen_num.specs.declared.mode.EventMode.{EventMode}
use Rattle.muen_num.specs.declared.mode.EventMode.TheVariants.{Asap, Async, Own, Switch}
use Rattle.policy_lawful.specs.MoreRules.{fits_event, has_vector, is_connected, is_switch, is_writer, offence_15, offence_6, readers_of, writers_of}
use Rattle.policy_lawful.specs.Offences.{alone}
use Rattle.policy_lawful.specs.Events.{ChannelEnd, Raised, Target, channel_ends, channel_event, channel_targets, event_of, event_targets, irq_of, named_event, reads_from, same_way, writes_by}
use Rattle.policy_lawful.specs.rights.Role.{Role}
use Rattle.policy_lawful.specs.rights.Role.TheVariants.{Reader, Writer}
use Rattle.policy_lawful.specs.source.Channel.{Channel}
use Rattle.policy_lawful.specs.source.DeviceUse.{DeviceUse}
use Rattle.policy_lawful.specs.source.Event.{Event}
use Rattle.policy_lawful.specs.source.EventTarget.{EventTarget}
use Rattle.policy_lawful.specs.source.IrqUse.{IrqUse}
use Rattle.policy_lawful.specs.source.Source.{Source}
use Rattle.policy_lawful.specs.source.SourceWay.{SourceWay}
use Rattle.policy_lawful.specs.source.Subject.{Subject}
use Rattle.policy_lawful.proofs.KeptVectors.{each_keeps_vectors, is_free, is_free_if_any, keeps_vectors, vectors_kept}

-- ---- vectors

-- it reaches a subject with a name, under a vector that the mode allows
abbrev reaches : EventMode → Target → Bool
reaches mode t = has_letters t.subject && is_vector mode (vector_code t.vector)

-- an event that does so
abbrev pub is_raised : Raised → Bool
is_raised x = reaches x.mode x.target

-- an interrupt that reaches a subject with a name, under a vector of those
abbrev pub is_routed : Target → Bool
is_routed t = has_letters t.subject && option_map_or is_free t.vector false

allowed : (mode : EventMode) (v : Option ℕ) → is_free_if_any v ≡ true → (is_some v || is_switch mode) ≡ true → is_vector mode (vector_code v) ≡ true
allowed mode (Some n) h k = ap (λ b. b || (n == 0 && switches mode)) h
allowed Switch None h k = refl
allowed Asap None h k = absurd (cc)
allowed Async None h k = absurd (cc)
allowed Own None h k = absurd (cc)

-- ---- the first of a list

first_raised : (mode : EventMode) (ts : List Target) → list_all (reaches mode) ts ≡ true → option_map_or is_raised (option_map (λ t. record { mode = mode; target = t }) (slice_get ts 0)) true ≡ true
first_raised mode [] h = refl
first_raised mode (t ∷ ts) h = (and_parts (reaches mode t) (list_all (reaches mode) ts) h).0

first_routed : (ts : List Target) → list_all is_routed ts ≡ true → option_map_or is_routed (slice_get ts 0) true ≡ true
first_routed [] h = refl
first_routed (t ∷ ts) h = (and_parts (is_routed t) (list_all is_routed ts) h).0

either_raised : (a b : Option Raised) → option_map_or is_raised a true ≡ true → option_map_or is_raised b true ≡ true → option_map_or is_raised (option_or a b) true ≡ true
either_raised None b h k = k
either_raised (Some x) b h k = h

then_raised : {X : Type 0} (f : X → Option Raised) (o : Option X) → ((x : X) → option_map_or is_raised (f x) true ≡ true) → option_map_or is_raised (option_and_then f o) true ≡ true
then_raised f None h = refl
then_raised f (Some x) h = h x

module _ (p : Source) (names : list_all (λ s. has_letters s.name) p.subjects ≡ true) (lawful_6 : offence_6 p ≡ None) (lawful_15 : offence_15 p ≡ None) where
  -- ---- events by name

  abbrev target_named : List ℕ → EventTarget → Target
  target_named subject t = record { subject = subject; vector = t.vector }

  module _ (name : List ℕ) (e : Event) (is : find (λ e. bytes_eq e.name name) p.events ≡ Some e) where
    of_target : (subject : List ℕ) → has_letters subject ≡ true → (t : EventTarget) → has_vector p t ≡ true → is_free_if_any t.vector ≡ true
        → (not (bytes_eq t.event name) || reaches e.mode (target_named subject t)) ≡ true
    of_target subject letters t h free =
        elim (bytes_eq t.event name) as (λ b. bytes_eq t.event name ≡ b → (not b || reaches e.mode (target_named subject t)) ≡ true) [
          | true ↦ λ same.
              let here : t.event ≡ name = (bytes_eq-Decides t.event name).0 same in
              let found : find (λ e. bytes_eq e.name t.event) p.events ≡ Some e = ap (λ n. find (λ (e : Event). bytes_eq e.name n) p.events) here ∙ is in
              let some : (is_some t.vector || is_switch e.mode) ≡ true = ap (λ o. is_some t.vector || option_map_or (λ (e : Event). is_switch e.mode) o false) (sym found) ∙ h in
              and_from (has_letters subject) (is_vector e.mode (vector_code t.vector)) letters (allowed e.mode t.vector free some)
          | false ↦ λ _. refl
        ] refl

    of_subject : (s : Subject) → has_letters s.name ≡ true → keeps_vectors p s ≡ true → list_all (reaches e.mode) (map (target_named s.name) (filter (λ t. bytes_eq t.event name) s.targets)) ≡ true
    of_subject s letters h =
        let v = vectors_kept p s h in
        list_all-map (reaches e.mode) (target_named s.name) (filter (λ t. bytes_eq t.event name) s.targets)
        ∙ all_filter (λ t. reaches e.mode (target_named s.name t)) (λ t. bytes_eq t.event name) s.targets
        ∙ each_of (has_vector p) (λ t. is_free_if_any t.vector) (λ t. not (bytes_eq t.event name) || reaches e.mode (target_named s.name t))
        (λ t a b. of_target s.name letters t a b) s.targets v.named v.targets

    targets_reached : list_all (reaches e.mode) (event_targets p name) ≡ true
    targets_reached =
        all_flat (reaches e.mode) (λ s. map (target_named s.name) (filter (λ t. bytes_eq t.event name) s.targets)) p.subjects
        ∙ each_of (λ s. has_letters s.name) (keeps_vectors p) (λ s. list_all (reaches e.mode) (map (target_named s.name) (filter (λ t. bytes_eq t.event name) s.targets)))
        of_subject p.subjects names (each_keeps_vectors p lawful_15)

  event_raised : (name : List ℕ) → option_map_or is_raised (named_event p name) true ≡ true
  event_raised name =
      elim (find (λ e. bytes_eq e.name name) p.events)
      as (λ o. find (λ e. bytes_eq e.name name) p.events ≡ o → option_map_or is_raised (option_and_then (λ (e : Event). option_map (λ t. record { mode = e.mode; target = t }) (slice_get (event_targets p name) 0)) o) true ≡ true) [
        | None ↦ λ _. refl
        | Some e ↦ λ is. first_raised e.mode (event_targets p name) (targets_reached name e is)
      ] refl

  -- ---- events of channels

  abbrev end_reached : List ℕ → ChannelEnd → Target
  end_reached subject e = record { subject = subject; vector = e.vector }

  -- what rule 6 asks of a reader where the channel has an event of this mode
  abbrev hears : EventMode → List ℕ × ChannelEnd → Bool
  hears mode e = not (is_some e.1.call) && (is_some e.1.vector || is_switch mode)

  readers_hear : (writers readers : List (List ℕ × ChannelEnd)) (o : Option EventMode) (mode : EventMode) → o ≡ Some mode → fits_event writers readers o ≡ true → list_all (hears mode) readers ≡ true
  readers_hear writers readers o mode is h =
      let fits : fits_event writers readers (Some mode) ≡ true = ap (fits_event writers readers) (sym is) ∙ h in
      (and_parts _ (list_all (hears mode) readers) fits).1

  module _ (name : List ℕ) (c : Channel) (mode : EventMode) (is : find (λ c. bytes_eq c.name name) p.channels ≡ Some c) (has : c.has_event ≡ Some mode) where
    of_end : (subject : List ℕ) → has_letters subject ≡ true → (e : ChannelEnd) (role : Role)
        → (not (bytes_eq e.channel name) || (not (not (is_writer role)) || hears mode (subject, e))) ≡ true → is_free_if_any e.vector ≡ true
        → (not (reads_from e role name) || reaches mode (end_reached subject e)) ≡ true
    of_end subject letters e Writer h free = refl
    of_end subject letters e Reader h free =
        elim (bytes_eq e.channel name) as (λ b. (not b || hears mode (subject, e)) ≡ true → (not b || reaches mode (end_reached subject e)) ≡ true) [
          | true ↦ λ hear.
              and_from (has_letters subject) (is_vector mode (vector_code e.vector)) letters
              (allowed mode e.vector free (and_parts (not (is_some e.call)) (is_some e.vector || is_switch mode) hear).1)
          | false ↦ λ _. refl
        ] h

    -- the readers of the channel, as the rule lists them
    abbrev listed : Subject → List (List ℕ × ChannelEnd)
    listed s = map (λ e. (s.name, e)) (filter (λ e. bytes_eq e.channel name) (channel_ends p s))

    abbrev heard_from : List ℕ × ChannelEnd → Bool
    heard_from e = not (not (is_writer e.1.role)) || hears mode e

    each_6 : list_all (λ s. list_all heard_from (listed s)) p.subjects ≡ true
    unfolding offence_6
    each_6 =
        let connected = found_among (λ c. bytes_eq c.name name) (is_connected p) p.channels c is (all_pass (is_connected p) (λ c. alone c.name) p.channels lawful_6) in
        let named : c.name ≡ name = (bytes_eq-Decides c.name name).0 (found_passes (λ c. bytes_eq c.name name) p.channels c is) in
        let fits : fits_event (writers_of p c.name) (readers_of p c.name) c.has_event ≡ true = (and_parts _ _ connected).1 in
        let hear : list_all (hears mode) (readers_of p name) ≡ true = ap (λ n. list_all (hears mode) (readers_of p n)) (sym named) ∙ readers_hear (writers_of p c.name) (readers_of p c.name) c.has_event mode has fits in
        sym (all_filter (hears mode) (λ e. not (is_writer e.1.role)) (flat_map listed p.subjects) ∙ all_flat heard_from listed p.subjects) ∙ hear

    of_reader : (s : Subject) → has_letters s.name ≡ true → list_all heard_from (listed s) ≡ true → keeps_vectors p s ≡ true
        → list_all (reaches mode) (map (end_reached s.name) (filter (λ e. reads_from e e.role name) (channel_ends p s))) ≡ true
    of_reader s letters h k =
        let heard : list_all (λ e. not (bytes_eq e.channel name) || heard_from (s.name, e)) (channel_ends p s) ≡ true =
        sym (list_all-map heard_from (λ e. (s.name, e)) (filter (λ e. bytes_eq e.channel name) (channel_ends p s))
        ∙ all_filter (λ e. heard_from (s.name, e)) (λ e. bytes_eq e.channel name) (channel_ends p s)) ∙ h in
        list_all-map (reaches mode) (end_reached s.name) (filter (λ e. reads_from e e.role name) (channel_ends p s))
        ∙ all_filter (λ e. reaches mode (end_reached s.name e)) (λ e. reads_from e e.role name) (channel_ends p s)
        ∙ each_of (λ e. not (bytes_eq e.channel name) || heard_from (s.name, e)) (λ e. is_free_if_any e.vector)
        (λ e. not (reads_from e e.role name) || reaches mode (end_reached s.name e))
        (λ e a b. of_end s.name letters e e.role a b) (channel_ends p s) heard (vectors_kept p s k).ends

    readers_reached : list_all (reaches mode) (channel_targets p name) ≡ true
    readers_reached =
        let both = each_of (λ s. has_letters s.name) (λ s. list_all heard_from (listed s)) (λ s. has_letters s.name && list_all heard_from (listed s))
        (λ s a b. and_from (has_letters s.name) (list_all heard_from (listed s)) a b) p.subjects names each_6 in
        all_flat (reaches mode) (λ s. map (end_reached s.name) (filter (λ e. reads_from e e.role name) (channel_ends p s))) p.subjects
        ∙ each_of (λ s. has_letters s.name && list_all heard_from (listed s)) (keeps_vectors p)
        (λ s. list_all (reaches mode) (map (end_reached s.name) (filter (λ e. reads_from e e.role name) (channel_ends p s))))
        (λ s a b. let parts = and_parts (has_letters s.name) (list_all heard_from (listed s)) a in of_reader s parts.0 parts.1 b) p.subjects both (each_keeps_vectors p lawful_15)

  channel_raised : (name : List ℕ) → option_map_or is_raised (channel_event p name) true ≡ true
  channel_raised name =
      elim (find (λ c. bytes_eq c.name name) p.channels)
      as (λ o. find (λ c. bytes_eq c.name name) p.channels ≡ o
      → option_map_or is_raised (option_and_then (λ (c : Channel). option_and_then (λ m. option_map (λ t. record { mode = m; target = t }) (slice_get (channel_targets p name) 0)) c.has_event) o) true ≡ true) [
        | None ↦ λ _. refl
        | Some c ↦ λ is. by_mode c is c.has_event refl
      ] refl
    where
      by_mode : (c : Channel) → find (λ c. bytes_eq c.name name) p.channels ≡ Some c → (m : Option EventMode) → c.has_event ≡ m
          → option_map_or is_raised (option_and_then (λ m. option_map (λ t. record { mode = m; target = t }) (slice_get (channel_targets p name) 0)) m) true ≡ true
      by_mode c is None has = refl
      by_mode c is (Some mode) has = first_raised mode (channel_targets p name) (readers_reached name c mode is has)

  -- ---- all

  -- what a subject raises reaches a subject with a name, under a vector that the mode allows
  pub raised_reaches : (s : Subject) (way : SourceWay) → option_map_or is_raised (event_of p s way) true ≡ true
  unfolding event_of
  raised_reaches s way =
      either_raised
      (option_and_then (λ e. named_event p e.event) (find (λ e. same_way e.way way) s.sources))
      (option_and_then (λ e. channel_event p e.channel) (find (λ e. writes_by e e.role way) (channel_ends p s)))
      (then_raised (λ e. named_event p e.event) (find (λ e. same_way e.way way) s.sources) (λ e. event_raised e.event))
      (then_raised (λ e. channel_event p e.channel) (find (λ e. writes_by e e.role way) (channel_ends p s)) (λ e. channel_raised e.channel))

  -- ---- interrupts

  abbrev irq_reached : List ℕ → IrqUse → Target
  irq_reached subject i = record { subject = subject; vector = Some i.vector }

  -- of a use of a device, where those interrupts are granted that pass
  use_routed : (subject : List ℕ) → has_letters subject ≡ true → (wanted : DeviceUse → IrqUse → Bool) (d : DeviceUse) → list_all is_free (map (λ i. i.vector) d.irqs) ≡ true
      → list_all is_routed (map (irq_reached subject) (filter (wanted d) d.irqs)) ≡ true
  use_routed subject letters wanted d h =
      let free : list_all (λ i. is_free i.vector) d.irqs ≡ true = sym (list_all-map is_free (λ i. i.vector) d.irqs) ∙ h in
      list_all-map is_routed (irq_reached subject) (filter (wanted d) d.irqs)
      ∙ all_filter (λ i. is_routed (irq_reached subject i)) (wanted d) d.irqs
      ∙ each_of (λ i. is_free i.vector) (λ i. is_free i.vector) (λ i. not (wanted d i) || is_routed (irq_reached subject i))
      (λ i a _.
      elim (wanted d i) as (λ b. (not b || is_routed (irq_reached subject i)) ≡ true) [
        | true ↦ and_from (has_letters subject) (is_free i.vector) letters a
        | false ↦ refl
      ]) d.irqs free free

  pub irq_reaches : (device irq : List ℕ) → option_map_or is_routed (irq_of p device irq) true ≡ true
  unfolding irq_of
  irq_reaches device irq =
      let wanted : DeviceUse → IrqUse → Bool = λ d i. bytes_eq d.device device && bytes_eq i.irq irq in
      let of_use : Subject → DeviceUse → List Target = λ s d. map (irq_reached s.name) (filter (wanted d) d.irqs) in
      let all : list_all is_routed (flat_map (λ s. flat_map (of_use s) s.devices) p.subjects) ≡ true =
      all_flat is_routed (λ s. flat_map (of_use s) s.devices) p.subjects
      ∙ each_of (λ s. has_letters s.name) (keeps_vectors p) (λ s. list_all is_routed (flat_map (of_use s) s.devices))
      (λ s a b.
      all_flat is_routed (of_use s) s.devices
      ∙ each_of (λ d. list_all is_free (map (λ i. i.vector) d.irqs)) (λ d. list_all is_free (map (λ i. i.vector) d.irqs)) (λ d. list_all is_routed (of_use s d))
      (λ d h _. use_routed s.name a wanted d h) s.devices (vectors_kept p s b).irqs (vectors_kept p s b).irqs)
      p.subjects names (each_keeps_vectors p lawful_15) in
      first_routed (flat_map (λ s. flat_map (of_use s) s.devices) p.subjects) all
