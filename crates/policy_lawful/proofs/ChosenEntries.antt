-- The entry that a subject has for a logical name of its component, by name or by index.
use Rattle.std.proofs.Common.{◌≡◌, ℕ, ◌+◌, ◌<◌, true, List, [], ◌++◌, length, map, Option, Some, None, sym, ap, ◌∙◌, arith, length-append}
use Rattle.std.specs.Prelude.{◌==◌, slice_get}
use Rattle.std.specs.Option.{option_map_or}
use Rattle.std.specs.List.{find, list_all}
use Rattle.std.specs.Str.{bytes_eq}
use Rattle.std.proofs.lemmas.Bool.{and_parts, ltb-true}
use Rattle.std.proofs.lemmas.Bool.Decides.{nat_tests}
use Rattle.std.proofs.lemmas.List.{get_or-append-add, get_or_append_left}
use Rattle.policy_lawful.specs.Resolution.{Resolution, component_part, entry_in_range, entry_named, name_at}
use Rattle.policy_lawful.specs.Rules.{logical_names, repeated}
use Rattle.policy_lawful.specs.declared.resolved.MapEntry.{MapEntry}
use Rattle.policy_lawful.specs.declared.resolved.Wanted.{Wanted}
use Rattle.policy_lawful.specs.declared.resolved.Wanted.TheVariants.{Memory as WantedMemory, Channel as WantedChannel}
use Rattle.policy_lawful.proofs.Indexes.{same_name}
use Rattle.policy_types.specs.declared.source.Component.{Component}
use Rattle.policy_types.specs.declared.source.MapEntry.{MapEntry as NamedEntry}
use Rattle.policy_lawful.specs.Views.{same_wanted}
use Rattle.policy_lawful.proofs.Mapped.{found_same}

-- ---- logical names

abbrev index_of : Wanted → ℕ
index_of (WantedMemory k) = k
index_of (WantedChannel k) = k

-- the names of its kind
abbrev names_like : Component → Wanted → List (List ℕ)
names_like c (WantedMemory k) = map (λ x. x.logical) c.memory
names_like c (WantedChannel k) = map (λ x. x.logical) c.channels

-- its index among all of them
abbrev whole_index : Component → Wanted → ℕ
whole_index c (WantedMemory k) = length (map (λ x. x.logical) c.provides) + k
whole_index c (WantedChannel k) = length (map (λ x. x.logical) c.provides ++ map (λ x. x.logical) c.memory) + k

abbrev IsThere : Component → Wanted → Type 0
IsThere c w = index_of w < length (names_like c w)

abbrev own_name : Component → Wanted → List ℕ
own_name c w = name_at (names_like c w) (index_of w)

within_whole : (c : Component) (w : Wanted) → IsThere c w → whole_index c w < length (logical_names c)
within_whole c (WantedMemory k) l =
    let a = length-append (map (λ x. x.logical) c.provides) (map (λ x. x.logical) c.memory) in
    let b = length-append (map (λ x. x.logical) c.provides ++ map (λ x. x.logical) c.memory) (map (λ x. x.logical) c.channels) in
    omega (arith, a, b, l)
within_whole c (WantedChannel k) l =
    let b = length-append (map (λ x. x.logical) c.provides ++ map (λ x. x.logical) c.memory) (map (λ x. x.logical) c.channels) in
    omega (arith, b, l)

named_whole : (c : Component) (w : Wanted) → IsThere c w → name_at (logical_names c) (whole_index c w) ≡ own_name c w
named_whole c (WantedMemory k) l =
    let provides = map (λ x. x.logical) c.provides in
    let memory = map (λ x. x.logical) c.memory in
    let a : length (provides ++ memory) ≡ length provides + length memory = length-append provides memory in
    get_or_append_left (provides ++ memory) (map (λ x. x.logical) c.channels) [] (length provides + k) (omega (arith, a, l)) ∙ get_or-append-add provides memory k []
named_whole c (WantedChannel k) l =
    get_or-append-add (map (λ x. x.logical) c.provides ++ map (λ x. x.logical) c.memory) (map (λ x. x.logical) c.channels) k []

indexes_same : (c : Component) (v w : Wanted) → IsThere c v → IsThere c w → (whole_index c v == whole_index c w) ≡ same_wanted v w
indexes_same c (WantedMemory j) (WantedMemory k) a b = grind (arith, nat_tests)
indexes_same c (WantedChannel j) (WantedChannel k) a b = grind (arith, nat_tests)
indexes_same c (WantedMemory j) (WantedChannel k) a b =
    let e = length-append (map (λ x. x.logical) c.provides) (map (λ x. x.logical) c.memory) in
    grind (arith, nat_tests, e, a)
indexes_same c (WantedChannel j) (WantedMemory k) a b =
    let e = length-append (map (λ x. x.logical) c.provides) (map (λ x. x.logical) c.memory) in
    grind (arith, nat_tests, e, b)

-- two of a component have the same name just where they are the same
wanted_same : (c : Component) (v w : Wanted) → repeated (logical_names c) ≡ None → IsThere c v → IsThere c w → bytes_eq (own_name c v) (own_name c w) ≡ same_wanted v w
wanted_same c v w unique a b =
    (λ i. bytes_eq (sym (named_whole c v a) i) (sym (named_whole c w b) i))
    ∙ same_name (logical_names c) (whole_index c v) (whole_index c w) unique (within_whole c v a) (within_whole c w b)
    ∙ indexes_same c v w a b

-- ---- entries

module _ (r : Resolution) (used : ℕ) (c : Component) (is : slice_get r.components used ≡ Some c) (unique : repeated (logical_names c) ≡ None) where
  part_is : (names_of : Component → List (List ℕ)) → component_part r names_of used ≡ names_of c
  part_is names_of = ap (λ o. option_map_or names_of o []) is

  logical_named : (w : Wanted) (e : MapEntry) → (entry_named r used w e).logical ≡ own_name c w
  logical_named (WantedMemory k) e = ap (λ names. name_at names k) (part_is (λ c. map (λ x. x.logical) c.memory))
  logical_named (WantedChannel k) e = ap (λ names. name_at names k) (part_is (λ c. map (λ x. x.logical) c.channels))

  entry_there : (w : Wanted) (physical : ℕ) → entry_in_range r used w physical ≡ true → IsThere c w
  entry_there (WantedMemory k) physical h =
      let l = ltb-true k (length (component_part r (λ c. map (λ x. x.logical) c.memory) used)) (and_parts _ _ h).0 in
      let e : length (component_part r (λ c. map (λ x. x.logical) c.memory) used) ≡ length (map (λ x. x.logical) c.memory) = ap length (part_is (λ c. map (λ x. x.logical) c.memory)) in
      omega (arith, l, e)
  entry_there (WantedChannel k) physical h =
      let l = ltb-true k (length (component_part r (λ c. map (λ x. x.logical) c.channels) used)) (and_parts _ _ h).0 in
      let e : length (component_part r (λ c. map (λ x. x.logical) c.channels) used) ≡ length (map (λ x. x.logical) c.channels) = ap length (part_is (λ c. map (λ x. x.logical) c.channels)) in
      omega (arith, l, e)

  -- what is told of the entry that is found by a logical name
  pub entry_found : {Z : Type 0} (w : Wanted) (logical : List ℕ) (from : Option NamedEntry → Z) (to : Option MapEntry → Z) → IsThere c w → logical ≡ own_name c w → from None ≡ to None
      → ((e : MapEntry) → entry_in_range r used e.logical e.physical ≡ true → same_wanted e.logical w ≡ true → from (Some (entry_named r used e.logical e)) ≡ to (Some e))
      → (entries : List MapEntry) → list_all (λ e. entry_in_range r used e.logical e.physical) entries ≡ true
      → from (find (λ e. bytes_eq e.logical logical) (map (λ e. entry_named r used e.logical e) entries)) ≡ to (find (λ e. same_wanted e.logical w) entries)
  entry_found w logical from to l name none tells entries in_range =
      found_same (λ e. bytes_eq e.logical logical) (λ e. entry_named r used e.logical e) (λ e. same_wanted e.logical w) (λ e. entry_in_range r used e.logical e.physical) from to none
      (λ e h. (λ i. bytes_eq (logical_named e.logical e i) (name i)) ∙ wanted_same c e.logical w unique (entry_there e.logical e.physical h) l)
      tells entries in_range
