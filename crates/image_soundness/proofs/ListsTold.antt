-- Lists are one where what their elements are mapped to is: names that are unique, and what else tells elements.
use Rattle.std.proofs.Common.{◌≡◌, ℕ, ◌+◌, ◌<◌, Bool, true, List, [], ◌∷◌, ◌++◌, length, map, Option, Some, None, refl, sym, ap, ap₂, ◌∙◌, arith, length-append}
use Rattle.std.specs.Prelude.{option_map}
use Rattle.std.specs.Option.{option_map_or}
use Rattle.std.specs.List.{AllZip, list_all, position_or_len}
use Rattle.std.specs.Str.{bytes_eq}
use Rattle.std.proofs.lemmas.Bool.{and_parts}
use Rattle.std.proofs.lemmas.List.{get_or-append-add, get_or_append_left, length-map}
use Rattle.std.proofs.lemmas.Option.{same_Some}
use Rattle.policy_lawful.proofs.Indexes.{position_is}
use Rattle.policy_lawful.specs.Resolution.{name_at}
use Rattle.policy_lawful.specs.Rules.{repeated}

-- ---- names

-- where names are unique, two indexes of one name are one
pub index_one : (names : List (List ℕ)) → repeated names ≡ None → (j k : ℕ) → j < length names → k < length names → name_at names j ≡ name_at names k → j ≡ k
index_one names unique j k a b e =
    sym (position_is names j unique a) ∙ ap (λ n. position_or_len (λ m. bytes_eq m n) names) e ∙ position_is names k unique b

-- so of what has names
pub named_one : {X : Type 0} (f : X → List ℕ) (xs : List X) → repeated (map f xs) ≡ None → (j k : ℕ) → j < length xs → k < length xs
    → name_at (map f xs) j ≡ name_at (map f xs) k → j ≡ k
named_one f xs unique j k a b e =
    let many : length (map f xs) ≡ length xs = length-map xs f in
    index_one (map f xs) unique j k (omega (arith, many, a)) (omega (arith, many, b)) e

-- no name is in two lists whose names are unique together
pub names_apart : (xs ys : List (List ℕ)) → repeated (xs ++ ys) ≡ None → (j k : ℕ) → j < length xs → k < length ys → name_at xs j ≡ name_at ys k → ⊥
names_apart xs ys unique j k a b e =
    let many = length-append xs ys in
    let same = index_one (xs ++ ys) unique j (length xs + k) (omega (arith, many, a)) (omega (arith, many, b))
    (get_or_append_left xs ys [] j a ∙ e ∙ sym (get_or-append-add xs ys k [])) in
    omega (arith, same, a)

-- ---- lists

-- lists that are mapped to one list are mapped to one first and to one rest
pub first_same : {X Y : Type 0} (f : X → Y) (x y : X) (xs ys : List X) → map f (x ∷ xs) ≡ map f (y ∷ ys) → f x ≡ f y
first_same f x y xs ys e = cc

pub rest_same : {X Y : Type 0} (f : X → Y) (x y : X) (xs ys : List X) → map f (x ∷ xs) ≡ map f (y ∷ ys) → map f xs ≡ map f ys
rest_same f x y xs ys e = cc

-- what is in range is told by what stands for it
abbrev pub AreTold : {X Y : Type 0} → (X → Y) → (X → Bool) → Type 0
AreTold {X} {Y} f in_range = (a b : X) → in_range a ≡ true → in_range b ≡ true → f a ≡ f b → a ≡ b

pub lists_told : {X Y : Type 0} (f : X → Y) (in_range : X → Bool) → AreTold f in_range → (xs ys : List X) → list_all in_range xs ≡ true → list_all in_range ys ≡ true
    → map f xs ≡ map f ys → xs ≡ ys
lists_told f in_range told [] [] a b e = refl
lists_told f in_range told [] (y ∷ ys) a b e = absurd (cc)
lists_told f in_range told (x ∷ xs) [] a b e = absurd (cc)
lists_told f in_range told (x ∷ xs) (y ∷ ys) a b e =
    let p = and_parts (in_range x) (list_all in_range xs) a in
    let q = and_parts (in_range y) (list_all in_range ys) b in
    ap₂ (λ z zs. z ∷ zs) (told x y p.0 q.0 (first_same f x y xs ys e)) (lists_told f in_range told xs ys p.1 q.1 (rest_same f x y xs ys e))

pub options_told : {X Y : Type 0} (f : X → Y) (in_range : X → Bool) → AreTold f in_range → (a b : Option X) → option_map_or in_range a true ≡ true
    → option_map_or in_range b true ≡ true → option_map f a ≡ option_map f b → a ≡ b
options_told f in_range told None None x y e = refl
options_told f in_range told None (Some b) x y e = absurd (cc)
options_told f in_range told (Some a) None x y e = absurd (cc)
options_told f in_range told (Some a) (Some b) x y e = ap Some (told a b x y (same_Some (f a) (f b) e))

-- where what elements are mapped to can be mapped back, the lists are one
mapped_back : {X Y : Type 0} (f : X → Y) (back : Y → X) → ((x : X) → back (f x) ≡ x) → (xs : List X) → map back (map f xs) ≡ xs
mapped_back f back is [] = refl
mapped_back f back is (x ∷ xs) = ap₂ (λ z zs. z ∷ zs) (is x) (mapped_back f back is xs)

pub mapped_one : {X Y : Type 0} (f : X → Y) (back : Y → X) → ((x : X) → back (f x) ≡ x) → (xs ys : List X) → map f xs ≡ map f ys → xs ≡ ys
mapped_one f back is xs ys e = sym (mapped_back f back is xs) ∙ ap (map back) e ∙ mapped_back f back is ys

-- where a relation fixes the element beside each, it fixes the list beside
pub beside_one : {X Y : Type 0} (R : X → Y → Type 0) → ((x : X) (y z : Y) → R x y → R x z → y ≡ z) → (xs : List X) (ys zs : List Y) → AllZip R xs ys → AllZip R xs zs → ys ≡ zs
beside_one R one [] [] [] p q = refl
beside_one R one [] [] (z ∷ zs) p q = absurd q
beside_one R one [] (y ∷ ys) zs p q = absurd p
beside_one R one (x ∷ xs) [] zs p q = absurd p
beside_one R one (x ∷ xs) (y ∷ ys) [] p q = absurd q
beside_one R one (x ∷ xs) (y ∷ ys) (z ∷ zs) p q = ap₂ (λ v vs. v ∷ vs) (one x y z p.0 q.0) (beside_one R one xs ys zs p.1 q.1)
