-- Each thing stands at one index among the things of a lawful policy.
use Rattle.std.proofs.Common.{◌≡◌, ℕ, zero, suc, ◌<◌, List, [], ◌∷◌, ◌++◌, length, map, get_or, Option, Some, None, refl, sym, ap, subst, ◌∙◌, inl, inr, arith}
use Rattle.std.specs.Prelude.{⊤, slice_get}
use Rattle.std.specs.List.{flat_map}
use Rattle.std.specs.Str.{bytes_eq}
use Rattle.std.proofs.lemmas.Bool.{eqb-true}
use Rattle.std.proofs.lemmas.Option.{get_or_from_slice_get, same_Some, slice_get_within}
use Rattle.policy_lawful.proofs.Indexes.{same_name}
use Rattle.policy_lawful.proofs.KeptRules.{rules_of}
use Rattle.policy_lawful.proofs.UniqueNames.{logical_unique, parts_unique, provided_unique, unique, unique_parts}
use Rattle.policy_lawful.specs.Lawful.{IsLawful}
use Rattle.policy_lawful.specs.Rules.{logical_names, repeated}
use Rattle.policy_lawful.specs.Thing.{Thing, region, channel, provided, device_memory, state, component_by, things_of}
use Rattle.policy_lawful.specs.source.Component.{Component}
use Rattle.policy_lawful.specs.source.ComponentUse.{ComponentUse}
use Rattle.policy_lawful.specs.source.Device.{Device}
use Rattle.policy_lawful.specs.source.Source.{Source}
use Rattle.muen_num.proofs.Members.{In, append_some, at_in, flat_some, index_in, map_in, map_some}
use Rattle.muen_num.proofs.Lookups.{same_self}
use Rattle.muen_num.proofs.Indexed.{found_at}
use Rattle.policy_lawful.proofs.Items.{provided_by, things_are}

-- ---- lists in which each element stands once

abbrev pub Once : {X : Type 0} → List X → Type 0
Once [] = ⊤
Once (x ∷ xs) = (In x xs → ⊥) × Once xs

-- then an element tells its index
pub once_at : {X : Type 0} (xs : List X) (x : X) (k l : ℕ) → Once xs → slice_get xs k ≡ Some x → slice_get xs l ≡ Some x → k ≡ l
once_at [] x k l h a b = absurd (cc)
once_at (y ∷ ys) x zero zero h a b = refl
once_at (y ∷ ys) x zero (suc l) h a b = absurd (h.0 (subst (λ z. In z ys) (sym (same_Some y x a)) (at_in ys l x b)))
once_at (y ∷ ys) x (suc k) zero h a b = absurd (h.0 (subst (λ z. In z ys) (sym (same_Some y x b)) (at_in ys k x a)))
once_at (y ∷ ys) x (suc k) (suc l) h a b = ap suc (once_at ys x k l h.1 a b)

-- names of which none is repeated
pub once_names : (names : List (List ℕ)) → repeated names ≡ None → Once names
once_names [] h = tt
once_names (x ∷ xs) h = (apart, once_names xs (unique_parts (x ∷ []) xs h).1)
  where
    apart : In x xs → ⊥
    apart i =
        let r = index_in xs x i in
        let e : get_or xs r.0 [] ≡ x = get_or_from_slice_get xs r.0 x [] r.1 in
        let low : r.0 < length xs = slice_get_within xs r.0 x r.1 in
        let same : 0 ≡ suc r.0 = eqb-true 0 (suc r.0) (sym (same_name (x ∷ xs) 0 (suc r.0) h (omega arith) (omega (arith, low))) ∙ ap (bytes_eq x) e ∙ same_self x) in
        absurd (cc (same))

-- images that tell the names
pub once_map : {X Y : Type 0} (name : X → List ℕ) (f : X → Y) (xs : List X) → ((x z : X) → f x ≡ f z → name x ≡ name z) → Once (map name xs) → Once (map f xs)
once_map name f [] tells h = tt
once_map name f (x ∷ xs) tells h = (
  λ i. let m = map_some f xs (f x) i in h.0 (subst (λ n. In n (map name xs)) (tells m.one x m.image) (map_in name xs m.one m.within)),
  once_map name f xs tells h.1,
)

-- two lists that have no element in common
pub once_append : {X : Type 0} (xs ys : List X) → Once xs → Once ys → ((x : X) → In x xs → In x ys → ⊥) → Once (xs ++ ys)
once_append [] ys h k apart = k
once_append (x ∷ xs) ys h k apart = (
  λ i. elim (append_some xs ys x i) [ inl a ↦ h.0 a | inr b ↦ apart x (inl refl) b ],
  once_append xs ys h.1 k (λ z a b. apart z (inr a) b),
)

-- the lists of elements whose names differ, where an element of a list tells whose it is
pub once_flat : {X Y : Type 0} (name : X → List ℕ) (f : X → List Y) (xs : List X) → Once (map name xs) → ((x : X) → In x xs → Once (f x)) → ((x z : X) (y : Y) → In y (f x) → In y (f z) → name x ≡ name z) → Once (flat_map f xs)
once_flat name f [] h each tells = tt
once_flat name f (x ∷ xs) h each tells =
    once_append (f x) (flat_map f xs) (each x (inl refl)) (once_flat name f xs h.1 (λ z i. each z (inr i)) tells)
    (λ y a b.
    let m = flat_some f xs y b in
    h.0 (subst (λ n. In n (map name xs)) (tells m.one x y m.part a) (map_in name xs m.one m.within)))

-- ---- the kinds of things

abbrev kind_of : Thing → ℕ
kind_of (region r) = 0
kind_of (channel c) = 1
kind_of (provided s x) = 2
kind_of (device_memory d m) = 3
kind_of (state s) = 4

-- things of kinds below n, each once
record OnceBelow (n : ℕ) (xs : List Thing) : Type 0 where
  pub once : Once xs
  pub below : (x : Thing) → In x xs → kind_of x < n

joined : (n : ℕ) (xs ys : List Thing) → OnceBelow n xs → Once ys → ((x : Thing) → In x ys → kind_of x ≡ n) → OnceBelow (suc n) (xs ++ ys)
joined n xs ys h k kind =
    record {
      once = once_append xs ys h.once k (λ x a b. let low = h.below x a in let is = kind x b in absurd (omega (arith, low, is)));
      below = λ x i. elim (append_some xs ys x i) [
        | inl a ↦ let low = h.below x a in omega (arith, low)
        | inr b ↦ let is = kind x b in omega (arith, is)
      ];
    }

-- ---- what a subject's component brings along

provided_kind : (subject : List ℕ) (o : Option Component) (x : Thing) → In x (provided_by subject o) → kind_of x ≡ 2
provided_kind subject None x i = absurd i
provided_kind subject (Some c) x i = let m = map_some (λ y. provided subject y.logical) c.provides x i in ap kind_of (sym m.image)

provided_whose : (a b : List ℕ) (o q : Option Component) (x : Thing) → In x (provided_by a o) → In x (provided_by b q) → a ≡ b
provided_whose a b None q x i j = absurd i
provided_whose a b (Some c) None x i j = absurd j
provided_whose a b (Some c) (Some d) x i j =
    let m = map_some (λ y. provided a y.logical) c.provides x i in
    let n = map_some (λ y. provided b y.logical) d.provides x j in
    let e : provided a m.one.logical ≡ provided b n.one.logical = m.image ∙ sym n.image in
    cc (e)

brought_once : (subject : List ℕ) (c : Component) → repeated (logical_names c) ≡ None → Once (provided_by subject (Some c))
brought_once subject c h = once_map (λ x. x.logical) (λ x. provided subject x.logical) c.provides (λ x z e. cc (e)) (once_names (map (λ x. x.logical) c.provides) (provided_unique c h))

provided_once : (p : Source) → IsLawful p → (subject : List ℕ) (used : Option ComponentUse) → Once (provided_by subject (component_by p used))
provided_once p lawful subject None = tt
provided_once p lawful subject (Some used) = by_component (component_by p (Some used)) refl
  where
    by_component : (o : Option Component) → component_by p (Some used) ≡ o → Once (provided_by subject o)
    by_component None e = tt
    by_component (Some c) e =
        let at = found_at (λ c. bytes_eq c.name used.used) p.components c e in
        brought_once subject c (logical_unique p at.index c (rules_of lawful).rule_1 at.here)

-- ---- a device's memories

memories_kind : (d : Device) (x : Thing) → In x (map (λ m. device_memory d.name m.name) d.memory) → kind_of x ≡ 3
memories_kind d x i = let m = map_some (λ m. device_memory d.name m.name) d.memory x i in ap kind_of (sym m.image)

memories_whose : (d e : Device) (x : Thing) → In x (map (λ m. device_memory d.name m.name) d.memory) → In x (map (λ m. device_memory e.name m.name) e.memory) → d.name ≡ e.name
memories_whose d e x i j =
    let m = map_some (λ m. device_memory d.name m.name) d.memory x i in
    let n = map_some (λ m. device_memory e.name m.name) e.memory x j in
    let s : device_memory d.name m.one.name ≡ device_memory e.name n.one.name = m.image ∙ sym n.image in
    cc (s)

memories_once : (p : Source) → IsLawful p → (d : Device) → In d p.devices → Once (map (λ m. device_memory d.name m.name) d.memory)
memories_once p lawful d i =
    let at = index_in p.devices d i in
    once_map (λ m. m.name) (λ m. device_memory d.name m.name) d.memory (λ x z e. cc (e)) (once_names (map (λ m. m.name) d.memory) (parts_unique p at.0 d (rules_of lawful).rule_1 at.1).memory)

-- ---- all things

-- each thing of a lawful policy stands once
pub things_once : (p : Source) → IsLawful p → Once (things_of p)
things_once p lawful =
    let names = unique p (rules_of lawful).rule_1 in
    let regions : List Thing = map (λ r. region r.name) p.memory in
    let channels : List Thing = map (λ c. channel c.name) p.channels in
    let brought : List Thing = flat_map (λ s. provided_by s.name (component_by p s.component)) p.subjects in
    let memories : List Thing = flat_map (λ d. map (λ m. device_memory d.name m.name) d.memory) p.devices in
    let a : OnceBelow 1 regions = record {
      once = once_map (λ r. r.name) (λ r. region r.name) p.memory (λ x z e. cc (e)) (once_names (map (λ r. r.name) p.memory) names.regions);
      below = λ x i. let m = map_some (λ r. region r.name) p.memory x i in let k : 0 ≡ kind_of x = ap kind_of m.image in omega (arith, k);
    } in
    let b : OnceBelow 2 (regions ++ channels) = joined 1 regions channels a
    (once_map (λ c. c.name) (λ c. channel c.name) p.channels (λ x z e. cc (e)) (once_names (map (λ c. c.name) p.channels) names.channels))
    (λ x i. let m = map_some (λ c. channel c.name) p.channels x i in ap kind_of (sym m.image)) in
    let c : OnceBelow 3 ((regions ++ channels) ++ brought) = joined 2 (regions ++ channels) brought b
    (once_flat (λ s. s.name) (λ s. provided_by s.name (component_by p s.component)) p.subjects (once_names (map (λ s. s.name) p.subjects) names.subjects)
    (λ s i. provided_once p lawful s.name s.component)
    (λ s t x i j. provided_whose s.name t.name (component_by p s.component) (component_by p t.component) x i j))
    (λ x i. let f = flat_some (λ s. provided_by s.name (component_by p s.component)) p.subjects x i in provided_kind f.one.name (component_by p f.one.component) x f.part) in
    subst Once (sym (things_are p))
    (joined 3 ((regions ++ channels) ++ brought) memories c
    (once_flat (λ d. d.name) (λ d. map (λ m. device_memory d.name m.name) d.memory) p.devices (once_names (map (λ d. d.name) p.devices) names.devices)
    (λ d i. memories_once p lawful d i)
    (λ d e x i j. memories_whose d e x i j))
    (λ x i. let f = flat_some (λ d. map (λ m. device_memory d.name m.name) d.memory) p.devices x i in memories_kind f.one x f.part)).once

-- each thing stands at one index among the things of a policy
pub thing_once : (p : Source) → IsLawful p → (x : Thing) (k l : ℕ) → slice_get (things_of p) k ≡ Some x → slice_get (things_of p) l ≡ Some x → k ≡ l
thing_once p lawful x k l a b = once_at (things_of p) x k l (things_once p lawful) a b
