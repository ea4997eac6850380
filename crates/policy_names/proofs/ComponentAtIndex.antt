-- A component at its index, and the names of what it wants.
use Rattle.std.proofs.Common.{◌≡◌, ℕ, ◌<◌, Bool, true, false, List, [], length, map, Option, Some, None, refl, sym, ap, subst, ◌∙◌, arith}
use Rattle.std.specs.Prelude.{◌&&◌, ◌||◌, slice_get, nat_lt, option_map, unwrap_or, if◌then◌else◌, Result}
use Rattle.std.specs.Option.{option_or, option_map_or}
use Rattle.std.specs.List.{find, list_all}
use Rattle.std.specs.Str.{bytes_eq}
use Rattle.std.proofs.lemmas.Bool.{and_from, ltb-true}
use Rattle.std.proofs.lemmas.List.{length-map}
use Rattle.std.proofs.lemmas.List.Folds.{list_any-append}
use Rattle.std.proofs.lemmas.Option.{slice_get-map}
use Rattle.muen_num.specs.Search.{first_in, unless}
use Rattle.muen_num.proofs.SearchLaws.{first_in-flat_map, option_or-None}
use Rattle.policy_lawful.specs.Keeps.{Keeps}
use Rattle.policy_lawful.specs.Offences.{broken, two}
use Rattle.policy_lawful.specs.Resolution.{component_in_range, component_named, entry_in_range, entry_named, name_at}
use Rattle.policy_lawful.specs.Rules.{component_references, entry_references, is_declared, offence_1, undeclared}
use Rattle.policy_lawful.proofs.Offences.{none_broken}
use Rattle.policy_lawful.proofs.Indexes.{found_at_index}
use Rattle.policy_lawful.proofs.UniqueNames.{unique as names_unique}
use Rattle.policy_lawful.specs.declared.offence.Offence.{Offence}
use Rattle.policy_lawful.specs.declared.resolved.MapEntry.{MapEntry as ResolvedEntry}
use Rattle.policy_lawful.specs.declared.resolved.ComponentUse.{ComponentUse as ResolvedUse}
use Rattle.policy_lawful.specs.declared.resolved.Wanted.{Wanted}
use Rattle.policy_lawful.specs.declared.resolved.Wanted.TheVariants.{Memory as WantedMemory, Channel as WantedChannel}
use Rattle.policy_lawful.specs.refusal.Refusal.{Refusal}
use Rattle.policy_lawful.specs.source.Component.{Component}
use Rattle.policy_lawful.specs.source.ComponentUse.{ComponentUse}
use Rattle.policy_lawful.specs.source.MapEntry.{MapEntry}
use Rattle.policy_lawful.specs.source.Source.{Source}
use Rattle.policy_names.specs.Entries.{EntriesStand, entry_among, map_entry_offence, entry_there}
use Rattle.policy_names.specs.Outline.{bare_resolution}
use Rattle.policy_names.specs.Parts.{names_of_wanted}
use Rattle.policy_names.specs.Indexes.{StandsFor}
use Rattle.policy_names.specs.declared.parts.WantedNames.{WantedNames}
use Rattle.policy_names.proofs.Refusals.{keeps_as}

-- ---- an entry

-- whether it is among the second decides where the other is sought
either : (second first : Bool) (o : Offence) (at : List (List ℕ) → Option Offence) (xs ys : List (List ℕ))
    → option_or (unless (first || second) o) (option_or (at (if second then ys else xs)) None) ≡ (if second then at ys else option_or (unless first o) (at xs))
either true true o at xs ys = option_or-None (at ys)
either true false o at xs ys = option_or-None (at ys)
either false true o at xs ys = option_or-None (at xs)
either false false o at xs ys = refl

entry_of : (p : Source) (by : List ℕ) (c : Component) (e : MapEntry) → first_in (undeclared by) (entry_references p (Some c) e) ≡ map_entry_offence p (names_of_wanted c) by e
entry_of p by c e =
    let regions = map (λ x. x.logical) c.memory in
    let channels = map (λ x. x.logical) c.channels in
    let at : List (List ℕ) → Option Offence = λ names. undeclared by (names, e.physical) in
    ap (λ b. option_or (unless b (two by e.logical)) (option_or (at (if is_declared channels e.logical then map (λ x. x.name) p.channels else map (λ r. r.name) p.memory)) None)) (list_any-append (λ n. bytes_eq n e.logical) regions channels)
    ∙ either (is_declared channels e.logical) (is_declared regions e.logical) (two by e.logical) at (map (λ r. r.name) p.memory) (map (λ x. x.name) p.channels)

same_names : (c : Component) (names : WantedNames) → Some (names_of_wanted c) ≡ Some names → names_of_wanted c ≡ names
same_names c names h = ap (λ o. unwrap_or o names) h

entry_over : (p : Source) (by : List ℕ) (e : MapEntry) (names : WantedNames) (o : Option Component) → option_map names_of_wanted o ≡ Some names → first_in (undeclared by) (entry_references p o e) ≡ map_entry_offence p names by e
entry_over p by e names None h = absurd (cc)
entry_over p by e names (Some c) h = subst (λ n. first_in (undeclared by) (entry_references p (Some c) e) ≡ map_entry_offence p n by e) (same_names c names h) (entry_of p by c e)

-- a list of what is there
part : (f : WantedNames → List (List ℕ)) (o : Option Component) (names : WantedNames) → option_map names_of_wanted o ≡ Some names → option_map_or (λ c. f (names_of_wanted c)) o [] ≡ f names
part f None names h = absurd (cc)
part f (Some c) names h = ap (λ o. option_map_or f o []) h

module _ (p : Source) (by : List ℕ) (e : MapEntry) (index : ℕ) (names : WantedNames) (at : slice_get (map names_of_wanted p.components) index ≡ Some names) where
  at_index : option_map names_of_wanted (slice_get p.components index) ≡ Some names
  at_index = sym (slice_get-map names_of_wanted p.components index) ∙ at

  regions_at : option_map_or (λ c. map (λ x. x.logical) c.memory) (slice_get p.components index) [] ≡ names.regions
  regions_at = part (λ n. n.regions) (slice_get p.components index) names at_index

  channels_at : option_map_or (λ c. map (λ x. x.logical) c.channels) (slice_get p.components index) [] ≡ names.channels
  channels_at = part (λ n. n.channels) (slice_get p.components index) names at_index

  entry_same : (w : Wanted) (r : ResolvedEntry) → entry_named (bare_resolution p) index w r ≡ entry_among p names w r
  entry_same (WantedMemory k) r = ap (λ (n : List (List ℕ)). record { logical = name_at n k; physical = name_at (map (λ r. r.name) p.memory) r.physical; rights = r.rights }) regions_at
  entry_same (WantedChannel k) r = ap (λ (n : List (List ℕ)). record { logical = name_at n k; physical = name_at (map (λ c. c.name) p.channels) r.physical; rights = r.rights }) channels_at

  there_same : (w : Wanted) (k : ℕ) → entry_in_range (bare_resolution p) index w k ≡ entry_there p names w k
  there_same (WantedMemory j) k = ap (λ (n : List (List ℕ)). nat_lt j (length n) && nat_lt k (length p.memory)) regions_at
  there_same (WantedChannel j) k = ap (λ (n : List (List ℕ)). nat_lt j (length n) && nat_lt k (length p.channels)) channels_at

  -- what is told of an entry among the names of its component
  pub entry_resolved : (result : Result ResolvedEntry Refusal) → Keeps (broken 2 (map_entry_offence p names by e)) (StandsFor (λ r. entry_among p names r.logical r) (λ r. entry_there p names r.logical r.physical) e) result
      → Keeps (broken 2 (first_in (undeclared by) (entry_references p (slice_get p.components index) e))) (StandsFor (λ r. entry_named (bare_resolution p) index r.logical r) (λ r. entry_in_range (bare_resolution p) index r.logical r.physical) e) result
  entry_resolved result keeps =
      keeps_as (StandsFor (λ r. entry_among p names r.logical r) (λ r. entry_there p names r.logical r.physical) e) (StandsFor (λ r. entry_named (bare_resolution p) index r.logical r) (λ r. entry_in_range (bare_resolution p) index r.logical r.physical) e)
      (broken 2 (map_entry_offence p names by e)) (broken 2 (first_in (undeclared by) (entry_references p (slice_get p.components index) e)))
      (ap (broken 2) (entry_over p by e names (slice_get p.components index) at_index))
      (λ r h. record { same = entry_same r.logical r ∙ h.same; there = there_same r.logical r.physical ∙ h.there })
      result keeps

none_over : (p : Source) (by : List ℕ) (e : MapEntry) (o : Option Component) → option_map names_of_wanted o ≡ None → first_in (undeclared by) (entry_references p o e) ≡ Some (two by e.logical)
none_over p by e None h = refl
none_over p by e (Some c) h = absurd (cc)

-- where there is no component, nothing is declared
pub no_component : (p : Source) (by : List ℕ) (e : MapEntry) (index : ℕ) → slice_get (map names_of_wanted p.components) index ≡ None → first_in (undeclared by) (entry_references p (slice_get p.components index) e) ≡ Some (two by e.logical)
no_component p by e index at = none_over p by e (slice_get p.components index) (sym (slice_get-map names_of_wanted p.components index) ∙ at)

-- ---- a use of a component

module _ (p : Source) (by : List ℕ) (c : ComponentUse) (index : ℕ)
    (unique : offence_1 p ≡ None)
    (stands : StandsFor (name_at (map (λ c. c.name) p.components)) (λ k. nat_lt k (length (map (λ c. c.name) p.components))) c.used index) where
  many : length (map (λ c. c.name) p.components) ≡ length p.components
  many = length-map p.components (λ c. c.name)

  -- the component is found by its name
  found : find (λ x. bytes_eq x.name c.used) p.components ≡ slice_get p.components index
  found =
      let within : index < length (map (λ c. c.name) p.components) = ltb-true index (length (map (λ c. c.name) p.components)) stands.there in
      ap (λ n. find (λ x. bytes_eq x.name n) p.components) (sym stands.same)
      ∙ found_at_index (λ c. c.name) p.components index (names_unique p unique).components (omega (arith, many, within))

  -- its references, one behind another
  in_turn : first_in (undeclared by) (component_references p (Some c))
      ≡ option_or (undeclared by (map (λ c. c.name) p.components, c.used)) (first_in (λ e. first_in (undeclared by) (entry_references p (slice_get p.components index) e)) c.map)
  in_turn =
      ap (option_or (undeclared by (map (λ c. c.name) p.components, c.used)))
      (first_in-flat_map (undeclared by) (entry_references p (find (λ x. bytes_eq x.name c.used) p.components)) c.map
      ∙ ap (λ o. first_in (λ e. first_in (undeclared by) (entry_references p o e)) c.map) found)

  -- the use with indexes stands for it
  use_stands : (r : ResolvedUse) → EntriesStand p index c r → StandsFor (component_named (bare_resolution p)) (component_in_range (bare_resolution p)) c r
  use_stands r entries =
      let used : name_at (map (λ c. c.name) p.components) r.used ≡ c.used = ap (name_at (map (λ c. c.name) p.components)) entries.used ∙ stands.same in
      let within : nat_lt r.used (length p.components) ≡ true = ap (λ k. nat_lt k (length p.components)) entries.used ∙ ap (nat_lt index) (sym many) ∙ stands.there in
      let same : map (λ e. entry_named (bare_resolution p) r.used e.logical e) r.map ≡ c.map = ap (λ k. map (λ (e : ResolvedEntry). entry_named (bare_resolution p) k e.logical e) r.map) entries.used ∙ entries.map.same in
      let there : list_all (λ e. entry_in_range (bare_resolution p) r.used e.logical e.physical) r.map ≡ true = ap (λ k. list_all (λ (e : ResolvedEntry). entry_in_range (bare_resolution p) k e.logical e.physical) r.map) entries.used ∙ entries.map.there in
      record {
        same = λ i. record { used = used i; map = same i };
        there = and_from _ _ within there;
      }

  -- so what is told of its entries tells all of it
  pub resolved : (result : Result ResolvedUse Refusal) → broken 2 (undeclared by (map (λ c. c.name) p.components, c.used)) ≡ None
      → Keeps (broken 2 (first_in (λ e. first_in (undeclared by) (entry_references p (slice_get p.components index) e)) c.map)) (EntriesStand p index c) result
      → Keeps (broken 2 (first_in (undeclared by) (component_references p (Some c)))) (StandsFor (component_named (bare_resolution p)) (component_in_range (bare_resolution p)) c) result
  resolved result declared keeps =
      let rest = first_in (λ e. first_in (undeclared by) (entry_references p (slice_get p.components index) e)) c.map in
      let same : broken 2 (first_in (undeclared by) (component_references p (Some c))) ≡ broken 2 rest =
      ap (broken 2) in_turn ∙ ap (λ o. broken 2 (option_or o rest)) (none_broken 2 (undeclared by (map (λ c. c.name) p.components, c.used)) declared) in
      keeps_as (EntriesStand p index c) (StandsFor (component_named (bare_resolution p)) (component_in_range (bare_resolution p)) c) (broken 2 rest) (broken 2 (first_in (undeclared by) (component_references p (Some c)))) same use_stands result keeps
