-- Rule 7 by names and by indexes.
use Rattle.std.proofs.Common.{◌≡◌, ℕ, ◌+◌, Bool, true, false, cond, List, [], ◌∷◌, length, map, Option, Some, None, refl, sym, ap, ◌∙◌, arith}
use Rattle.std.specs.Prelude.{◌==◌, ◌&&◌, filter, is_some, not, option_map, slice_get}
use Rattle.std.specs.Option.{option_map_or, option_or}
use Rattle.std.specs.List.{enumerate_from, filter_map, find, list_all}
use Rattle.std.specs.Str.{bytes_eq}
use Rattle.std.proofs.lemmas.Bool.{and_from, and_parts, ltb-true}
use Rattle.std.proofs.lemmas.List.{length-map}
use Rattle.std.proofs.lemmas.List.Folds.{list_all-map}
use Rattle.muen_num.specs.Search.{first_in, unless}
use Rattle.muen_num.proofs.SameAnswers.{both_numbered, first_in-map, first_numbered_same}
use Rattle.policy_lawful.specs.MoreRules as rules
use Rattle.policy_lawful.specs.MoreRules.{are_within, offence_7}
use Rattle.policy_lawful.specs.Offences.{two}
use Rattle.policy_lawful.specs.Resolution.{Resolution, IsResolved, component_named, component_in_range, entry_named, entry_in_range, source_of, subject_named, subject_in_range}
use Rattle.policy_lawful.specs.Rules.{repeated}
use Rattle.policy_lawful.specs.declared.resolved.ComponentUse.{ComponentUse}
use Rattle.policy_lawful.specs.declared.resolved.MapEntry.{MapEntry}
use Rattle.policy_lawful.specs.declared.resolved.Wanted.{Wanted}
use Rattle.policy_lawful.specs.declared.resolved.Wanted.TheVariants.{Memory as WantedMemory, Channel as WantedChannel}
use Rattle.policy_lawful.proofs.Indexes.{found_at_index}
use Rattle.policy_lawful.proofs.SourceElements.{parts_in_range}
use Rattle.policy_lawful.proofs.UniqueNames.{regions_unique, unique, unique_logical}
use Rattle.policy_lawful.specs.Thing.{component_by}
use Rattle.policy_lawful.specs.source.Component.{Component}
use Rattle.policy_lawful.specs.source.ComponentChannel.{ComponentChannel}
use Rattle.policy_lawful.specs.source.MapEntry.{MapEntry as NamedEntry}
use Rattle.policy_lawful.specs.source.Channel.{Channel}
use Rattle.policy_lawful.specs.source.Region.{Region}
use Rattle.policy_lawful.specs.source.Required.{Required}
use Rattle.policy_lawful.specs.Views.{same_wanted}
use Rattle.policy_lawful.proofs.ChosenEntries.{entry_found}
use Rattle.policy_lawful.proofs.WindowsByIndex.{component_at, component_there, name_there, subject_parts, within_names}
use Rattle.rules_channels.specs.ByIndex.{AreItems, items_at_index}
use Rattle.rules_channels.specs.Components.{component_channel_fault, channel_given, channel_grant, channel_offence, component_map_offence, gives_channel, gives_region, grant, is_channel_given, is_memory_given, memory_fault, memory_given, memory_grant, memory_offence, subject_offence, component_use_offence}
use Rattle.rules_channels.specs.declared.components.Grant.{Grant}

-- ---- what is noted

pub memory_noted : (regions : List Region) (by : List ℕ) (entries : List MapEntry) (wanted : List Required) (grants : List (List Grant)) → AreItems grants (length wanted) (filter_map (λ e. memory_grant e e.logical) entries)
    → first_in (memory_fault regions by grants) (enumerate_from 0 wanted) ≡ memory_offence regions by entries wanted
memory_noted regions by entries wanted grants had =
    both_numbered (memory_fault regions by grants) (λ x. unless (is_memory_given regions x.1 (memory_given entries x.0)) (two by x.1.logical)) 0 wanted
    (λ k x l. ap (λ gs. unless (is_memory_given regions x gs) (two by x.logical)) (had.at (0 + k) (omega (arith, l))))

pub channels_noted : (channels : List Channel) (by : List ℕ) (entries : List MapEntry) (wanted : List ComponentChannel) (grants : List (List Grant)) → AreItems grants (length wanted) (filter_map (λ e. channel_grant e e.logical) entries)
    → first_in (component_channel_fault channels by grants) (enumerate_from 0 wanted) ≡ channel_offence channels by entries wanted
channels_noted channels by entries wanted grants had =
    both_numbered (component_channel_fault channels by grants) (λ x. unless (is_channel_given channels x.1 (channel_given entries x.0)) (two by x.1.logical)) 0 wanted
    (λ k x l. ap (λ gs. unless (is_channel_given channels x gs) (two by x.logical)) (had.at (0 + k) (omega (arith, l))))

-- ---- entries by names and by indexes

-- what a test says of each entry of a logical name, by name and by index
abbrev Grants : Type 0
Grants = MapEntry → Option (ℕ × Grant)

kept : (k : ℕ) (g : Grants) (e : MapEntry) (es : List MapEntry) (j : ℕ) (x : Grant) → g e ≡ Some (j, x) → items_at_index k (filter_map g (e ∷ es)) ≡ cond (j == k) (x ∷ items_at_index k (filter_map g es)) (items_at_index k (filter_map g es))
kept k g e es j x is =
    rw is
    (elim (j == k) as (λ b. map (λ y. y.1) (cond b ((j, x) ∷ filter (λ y. y.0 == k) (filter_map g es)) (filter (λ y. y.0 == k) (filter_map g es))) ≡ cond b (x ∷ items_at_index k (filter_map g es)) (items_at_index k (filter_map g es))) [
      | true ↦ refl
      | false ↦ refl
    ])

left_out : (k : ℕ) (g : Grants) (e : MapEntry) (es : List MapEntry) → g e ≡ None → items_at_index k (filter_map g (e ∷ es)) ≡ items_at_index k (filter_map g es)
left_out k g e es is = rw is refl

abbrev memory_of : MapEntry → Option (ℕ × Grant)
memory_of e = memory_grant e e.logical

abbrev channel_of : MapEntry → Option (ℕ × Grant)
channel_of e = channel_grant e e.logical

-- an entry for a region, or for a channel
memory_step : (k : ℕ) (w : Wanted) (e : MapEntry) (es : List MapEntry) → e.logical ≡ w → items_at_index k (filter_map memory_of (e ∷ es)) ≡ cond (same_wanted w (WantedMemory k)) (grant e ∷ items_at_index k (filter_map memory_of es)) (items_at_index k (filter_map memory_of es))
memory_step k (WantedMemory j) e es is = kept k memory_of e es j (grant e) (ap (memory_grant e) is)
memory_step k (WantedChannel j) e es is = left_out k memory_of e es (ap (memory_grant e) is)

channel_step : (k : ℕ) (w : Wanted) (e : MapEntry) (es : List MapEntry) → e.logical ≡ w → items_at_index k (filter_map channel_of (e ∷ es)) ≡ cond (same_wanted w (WantedChannel k)) (grant e ∷ items_at_index k (filter_map channel_of es)) (items_at_index k (filter_map channel_of es))
channel_step k (WantedChannel j) e es is = kept k channel_of e es j (grant e) (ap (channel_grant e) is)
channel_step k (WantedMemory j) e es is = left_out k channel_of e es (ap (channel_grant e) is)

module _ {Y : Type 0} (named : MapEntry → Y) (test : Y → Bool) (wanted ok : MapEntry → Bool) (g : Grants) (k : ℕ) (says : Y → Bool) (gives : Grant → Bool)
    (same : (e : MapEntry) → ok e ≡ true → test (named e) ≡ wanted e)
    (step : (e : MapEntry) (es : List MapEntry) → items_at_index k (filter_map g (e ∷ es)) ≡ cond (wanted e) (grant e ∷ items_at_index k (filter_map g es)) (items_at_index k (filter_map g es)))
    (told : (e : MapEntry) → ok e ≡ true → wanted e ≡ true → says (named e) ≡ gives (grant e)) where
  one_answer : (b : Bool) (e : MapEntry) (left : List Y) (right : List Grant) → (b ≡ true → says (named e) ≡ gives (grant e)) → map says left ≡ map gives right → map says (cond b (named e ∷ left) left) ≡ map gives (cond b (grant e ∷ right) right)
  one_answer true e left right here rest = ap (λ t. t ∷ map says left) (here refl) ∙ ap (λ ts. gives (grant e) ∷ ts) rest
  one_answer false e left right here rest = rest

  answers : (es : List MapEntry) → list_all ok es ≡ true → map says (filter test (map named es)) ≡ map gives (items_at_index k (filter_map g es))
  answers [] all = refl
  answers (e ∷ es) all =
      let parts = and_parts (ok e) (list_all ok es) all in
      ap (λ b. map says (cond b (named e ∷ filter test (map named es)) (filter test (map named es)))) (same e parts.0)
      ∙ one_answer (wanted e) e (filter test (map named es)) (items_at_index k (filter_map g es)) (told e parts.0) (answers es parts.1)
      ∙ ap (map gives) (sym (step e es))

  -- one entry, and what it says
  pub one_given : (es : List MapEntry) → list_all ok es ≡ true
      → ((length (filter test (map named es)) == 1) && list_all says (filter test (map named es))) ≡ ((length (items_at_index k (filter_map g es)) == 1) && list_all gives (items_at_index k (filter_map g es)))
  one_given es all =
      let both = answers es all in
      let many : length (filter test (map named es)) ≡ length (items_at_index k (filter_map g es)) = sym (length-map (filter test (map named es)) says) ∙ ap length both ∙ length-map (items_at_index k (filter_map g es)) gives in
      let each : list_all says (filter test (map named es)) ≡ list_all gives (items_at_index k (filter_map g es)) = sym (list_all-map (λ b. b) says (filter test (map named es))) ∙ ap (list_all (λ b. b)) both ∙ list_all-map (λ b. b) gives (items_at_index k (filter_map g es)) in
      (λ i. (many i == 1) && each i)

-- ---- one component

some_is : {X : Type 0} (b : Bool) (x : X) → is_some (cond b (Some x) None) ≡ b
some_is true x = refl
some_is false x = refl

sized : {X : Type 0} (o : Option X) (test : X → Bool) (b : Bool) → (option_map_or test o false && b) ≡ option_map_or (λ x. test x && b) o false
sized None test b = refl
sized (Some x) test b = refl

channels_unique : (r : Resolution) → IsResolved r → repeated (map (λ x. x.name) r.channels) ≡ None
unfolding source_of
channels_unique r h = (unique (source_of r) h.names).channels

module _ (r : Resolution) (h : IsResolved r) (used : ComponentUse) (c : Component) (is : slice_get r.components used.used ≡ Some c) (in_range : list_all (λ e. entry_in_range r used.used e.logical e.physical) used.map ≡ true) where
  named : MapEntry → NamedEntry
  named e = entry_named r used.used e.logical e

  -- a test for one logical name, by name or by index
  memory_test : (k : ℕ) (x : Required) → slice_get c.memory k ≡ Some x → (e : MapEntry) → entry_in_range r used.used e.logical e.physical ≡ true → bytes_eq (named e).logical x.logical ≡ same_wanted e.logical (WantedMemory k)
  unfolding named
  memory_test k x at e ok =
      sym (some_is (bytes_eq (named e).logical x.logical) (named e))
      ∙ entry_found r used.used c is (unique_logical r h used.used c is) (WantedMemory k) x.logical is_some is_some (within_names (λ x. x.logical) c.memory k x at) (sym (name_there (λ x. x.logical) c.memory k x at)) refl (λ e _ _. refl) (e ∷ []) (and_from _ true ok refl)
      ∙ some_is (same_wanted e.logical (WantedMemory k)) e

  channel_test : (k : ℕ) (x : ComponentChannel) → slice_get c.channels k ≡ Some x → (e : MapEntry) → entry_in_range r used.used e.logical e.physical ≡ true → bytes_eq (named e).logical x.logical ≡ same_wanted e.logical (WantedChannel k)
  unfolding named
  channel_test k x at e ok =
      sym (some_is (bytes_eq (named e).logical x.logical) (named e))
      ∙ entry_found r used.used c is (unique_logical r h used.used c is) (WantedChannel k) x.logical is_some is_some (within_names (λ x. x.logical) c.channels k x at) (sym (name_there (λ x. x.logical) c.channels k x at)) refl (λ e _ _. refl) (e ∷ []) (and_from _ true ok refl)
      ∙ some_is (same_wanted e.logical (WantedChannel k)) e

  -- what an entry gives
  memory_told : (k : ℕ) (x : Required) (w : Wanted) (e : MapEntry) → entry_in_range r used.used w e.physical ≡ true → same_wanted w (WantedMemory k) ≡ true
      → (option_map_or (λ y. y.size == x.size) (find (λ y. bytes_eq y.name (entry_named r used.used w e).physical) r.memory) false && are_within x.rights (entry_named r used.used w e).rights) ≡ gives_region r.memory x (grant e)
  memory_told k x (WantedChannel j) e ok same = absurd (cc)
  memory_told k x (WantedMemory j) e ok same =
      ap (λ o. option_map_or (λ y. y.size == x.size) o false && are_within x.rights e.rights) (found_at_index (λ y. y.name) r.memory e.physical (regions_unique r h) (ltb-true e.physical (length r.memory) (and_parts _ _ ok).1))
      ∙ sized (slice_get r.memory e.physical) (λ y. y.size == x.size) (are_within x.rights e.rights)

  channel_told : (k : ℕ) (x : ComponentChannel) (w : Wanted) (e : MapEntry) → entry_in_range r used.used w e.physical ≡ true → same_wanted w (WantedChannel k) ≡ true
      → (option_map_or (λ y. y.size == x.size) (find (λ y. bytes_eq y.name (entry_named r used.used w e).physical) r.channels) false && not (is_some (entry_named r used.used w e).rights)) ≡ gives_channel r.channels x (grant e)
  channel_told k x (WantedMemory j) e ok same = absurd (cc)
  channel_told k x (WantedChannel j) e ok same =
      ap (λ o. option_map_or (λ y. y.size == x.size) o false && not (is_some e.rights)) (found_at_index (λ y. y.name) r.channels e.physical (channels_unique r h) (ltb-true e.physical (length r.channels) (and_parts _ _ ok).1))
      ∙ sized (slice_get r.channels e.physical) (λ y. y.size == x.size) (not (is_some e.rights))

  memory_mapped : (k : ℕ) (x : Required) → slice_get c.memory k ≡ Some x → rules.is_memory_mapped (source_of r) (component_named r used) x ≡ is_memory_given r.memory x (memory_given used.map k)
  unfolding source_of named
  memory_mapped k x at =
      one_given named (λ e. bytes_eq e.logical x.logical) (λ e. same_wanted e.logical (WantedMemory k)) (λ e. entry_in_range r used.used e.logical e.physical) memory_of k
      (λ e. option_map_or (λ y. y.size == x.size) (find (λ y. bytes_eq y.name e.physical) r.memory) false && are_within x.rights e.rights) (gives_region r.memory x)
      (memory_test k x at) (λ e es. memory_step k e.logical e es refl) (λ e ok same. memory_told k x e.logical e ok same) used.map in_range

  channel_mapped : (k : ℕ) (x : ComponentChannel) → slice_get c.channels k ≡ Some x → rules.is_channel_mapped (source_of r) (component_named r used) x ≡ is_channel_given r.channels x (channel_given used.map k)
  unfolding source_of named
  channel_mapped k x at =
      one_given named (λ e. bytes_eq e.logical x.logical) (λ e. same_wanted e.logical (WantedChannel k)) (λ e. entry_in_range r used.used e.logical e.physical) channel_of k
      (λ e. option_map_or (λ y. y.size == x.size) (find (λ y. bytes_eq y.name e.physical) r.channels) false && not (is_some e.rights)) (gives_channel r.channels x)
      (channel_test k x at) (λ e es. channel_step k e.logical e es refl) (λ e ok same. channel_told k x e.logical e ok same) used.map in_range

  memory_same : (by : List ℕ) → first_in (λ x. unless (rules.is_memory_mapped (source_of r) (component_named r used) x) (two by x.logical)) c.memory ≡ memory_offence r.memory by used.map c.memory
  memory_same by =
      first_numbered_same (λ x. unless (rules.is_memory_mapped (source_of r) (component_named r used) x) (two by x.logical)) (λ x. unless (is_memory_given r.memory x.1 (memory_given used.map x.0)) (two by x.1.logical)) 0 c.memory
      (λ k x at. let index : k ≡ 0 + k = omega arith in ap (λ b. unless b (two by x.logical)) (memory_mapped k x at ∙ ap (λ j. is_memory_given r.memory x (memory_given used.map j)) index))

  channels_same : (by : List ℕ) → first_in (λ x. unless (rules.is_channel_mapped (source_of r) (component_named r used) x) (two by x.logical)) c.channels ≡ channel_offence r.channels by used.map c.channels
  channels_same by =
      first_numbered_same (λ x. unless (rules.is_channel_mapped (source_of r) (component_named r used) x) (two by x.logical)) (λ x. unless (is_channel_given r.channels x.1 (channel_given used.map x.0)) (two by x.1.logical)) 0 c.channels
      (λ k x at. let index : k ≡ 0 + k = omega arith in ap (λ b. unless b (two by x.logical)) (channel_mapped k x at ∙ ap (λ j. is_channel_given r.channels x (channel_given used.map j)) index))

  component_same : (by : List ℕ) → rules.use_offence (source_of r) by (Some (component_named r used)) (Some c) ≡ component_map_offence r by used.map c
  component_same by = (λ i. option_or (memory_same by i) (channels_same by i))

use_same : (r : Resolution) → IsResolved r → (by : List ℕ) (o : Option ComponentUse) → option_map_or (component_in_range r) o true ≡ true
    → rules.use_offence (source_of r) by (option_map (component_named r) o) (component_by (source_of r) (option_map (component_named r) o)) ≡ component_use_offence r by o
use_same r h by None in_range = refl
use_same r h by (Some used) in_range =
    let c = component_there r used in_range in
    ap (rules.use_offence (source_of r) by (Some (component_named r used))) (component_at r h used c.0 c.1)
    ∙ component_same r h used c.0 c.1 (and_parts _ _ in_range).1 by
    ∙ sym (ap (λ o. option_map_or (component_map_offence r by used.map) o None) c.1)

pub mapped_by_index : (r : Resolution) → IsResolved r → first_in (subject_offence r) r.subjects ≡ offence_7 (source_of r)
unfolding offence_7 source_of
mapped_by_index r h =
    sym (first_in-map (subject_named r) (λ s. rules.use_offence (source_of r) s.name s.component (component_by (source_of r) s.component)) (subject_offence r) (subject_in_range r)
    (λ s ok. use_same r h s.name s.component (subject_parts r s ok).component) r.subjects (parts_in_range r h.in_range).subjects)
