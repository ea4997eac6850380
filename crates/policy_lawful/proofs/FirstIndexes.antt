-- The first index of a list at which a test passes, where the list is joined of pieces.
use Rattle.std.proofs.Common.{◌≡◌, ℕ, zero, suc, ◌+◌, ◌<◌, Bool, true, false, cond, not, List, [], ◌∷◌, ◌++◌, length, map, take, Some, None, refl, sym, ap, ◌∙◌, subst, arith, length-append, ne_eqb}
use Rattle.std.specs.Prelude.{◌||◌, slice_get}
use Rattle.std.specs.Option.{option_map_or}
use Rattle.std.specs.List.{find, flat_map, list_any, position_or_len, zip}
use Rattle.std.specs.Str.{bytes_eq}
use Rattle.std.proofs.lemmas.Bool.{or_parts}
use Rattle.std.proofs.lemmas.List.{length-map}
use Rattle.std.proofs.lemmas.Option.{slice_get_within}
use Rattle.muen_num.proofs.Lists.{list_any-map, position-map}
use Rattle.policy_lawful.specs.Resolution.{name_at}
use Rattle.policy_lawful.specs.Rules.{repeated}
use Rattle.policy_lawful.proofs.Indexes.{position_is, same_name}
use Rattle.policy_lawful.proofs.WindowsByIndex.{name_there, within_names}

-- the first element that passes stands at this index
pub record IsFirstAt {X : Type 0} (test : X → Bool) (xs : List X) (k : ℕ) : Type 0 where
  pub at : position_or_len test xs ≡ k
  pub within : k < length xs

-- ---- lists that are joined

left_position : {X : Type 0} (test : X → Bool) (xs ys : List X) → position_or_len test xs < length xs → position_or_len test (xs ++ ys) ≡ position_or_len test xs
left_position test [] ys l = absurd (omega (arith, l))
left_position test (x ∷ xs) ys l =
    elim (test x) as (λ b. cond (not b) (1 + position_or_len test xs) 0 < length (x ∷ xs) → cond (not b) (1 + position_or_len test (xs ++ ys)) 0 ≡ cond (not b) (1 + position_or_len test xs) 0) [
      | true ↦ λ l. refl
      | false ↦ λ l. ap (λ n. 1 + n) (left_position test xs ys (omega (arith, l)))
    ] l

right_position : {X : Type 0} (test : X → Bool) (xs ys : List X) → list_any test xs ≡ false → position_or_len test (xs ++ ys) ≡ length xs + position_or_len test ys
right_position test [] ys none = omega arith
right_position test (x ∷ xs) ys none =
    let both = or_parts (test x) (list_any test xs) none in
    ap (λ b. cond (not b) (1 + position_or_len test (xs ++ ys)) 0) both.0 ∙ omega (arith, right_position test xs ys both.1)

-- it is of the first list
pub first_left : {X : Type 0} (test : X → Bool) (xs ys : List X) (k : ℕ) → IsFirstAt test xs k → IsFirstAt test (xs ++ ys) k
first_left test xs ys k h = record {
  at = left_position test xs ys (omega (arith, h.at, h.within)) ∙ h.at;
  within = omega (arith, h.within, length-append xs ys);
}

-- none of the first list passes, and it is of the second
pub first_right : {X : Type 0} (test : X → Bool) (xs ys : List X) (k : ℕ) → list_any test xs ≡ false → IsFirstAt test ys k → IsFirstAt test (xs ++ ys) (length xs + k)
first_right test xs ys k none h = record {
  at = right_position test xs ys none ∙ ap (λ n. length xs + n) h.at;
  within = omega (arith, h.within, length-append xs ys);
}

pub none_joined : {X : Type 0} (test : X → Bool) (xs ys : List X) → list_any test xs ≡ false → list_any test ys ≡ false → list_any test (xs ++ ys) ≡ false
none_joined test [] ys a b = b
none_joined test (x ∷ xs) ys a b =
    let both = or_parts (test x) (list_any test xs) a in
    ap (λ c. c || list_any test (xs ++ ys)) both.0 ∙ none_joined test xs ys both.1 b

-- ---- lists that are mapped

pub first_mapped : {X Y : Type 0} (test : Y → Bool) (f : X → Y) (xs : List X) (k : ℕ) → IsFirstAt (λ x. test (f x)) xs k → IsFirstAt test (map f xs) k
first_mapped test f xs k h = record {
  at = position-map test f xs ∙ h.at;
  within = omega (arith, h.within, length-map xs f);
}

none_of : {X : Type 0} (test : X → Bool) (xs : List X) → ((x : X) → test x ≡ false) → list_any test xs ≡ false
none_of test [] h = refl
none_of test (x ∷ xs) h = ap (λ c. c || list_any test xs) (h x) ∙ none_of test xs h

pub none_mapped : {X Y : Type 0} (test : Y → Bool) (f : X → Y) (xs : List X) → ((x : X) → test (f x) ≡ false) → list_any test (map f xs) ≡ false
none_mapped test f xs h = list_any-map test f xs ∙ none_of (λ x. test (f x)) xs h

-- ---- pieces

pub none_pieces : {X Y : Type 0} (test : Y → Bool) (f : X → List Y) (xs : List X) → ((x : X) → list_any test (f x) ≡ false) → list_any test (flat_map f xs) ≡ false
none_pieces test f [] h = refl
none_pieces test f (x ∷ xs) h = none_joined test (f x) (flat_map f xs) (h x) (none_pieces test f xs h)

-- none of the pieces before has one that passes, and it is in this piece
pub first_piece : {X Y : Type 0} (test : Y → Bool) (f : X → List Y) (xs : List X) (k n : ℕ) (x : X) → slice_get xs k ≡ Some x
    → ((j : ℕ) (y : X) → j < k → slice_get xs j ≡ Some y → list_any test (f y) ≡ false) → IsFirstAt test (f x) n
    → IsFirstAt test (flat_map f xs) (length (flat_map f (take k xs)) + n)
first_piece test f [] k n x at none h = absurd cc
first_piece test f (z ∷ zs) zero n x at none h =
    let same : z ≡ x = cc in
    let first : n ≡ 0 + n = omega arith in
    subst (IsFirstAt test (f z ++ flat_map f zs)) first (first_left test (f z) (flat_map f zs) n (subst (λ y. IsFirstAt test (f y) n) (sym same) h))
first_piece test f (z ∷ zs) (suc k) n x at none h =
    let before = flat_map f (take k zs) in
    let later = first_piece test f zs k n x at (λ j y l is. none (suc j) y (omega (arith, l)) is) h in
    let number : length (f z) + (length before + n) ≡ length (f z ++ before) + n = omega (arith, length-append (f z) before) in
    subst (IsFirstAt test (f z ++ flat_map f zs)) number (first_right test (f z) (flat_map f zs) (length before + n) (none 0 z (omega arith) refl) later)

-- ---- names

-- where names are unique, an element is the first of its name
pub first_named : {X : Type 0} (f : X → List ℕ) (xs : List X) (k : ℕ) (x : X) → repeated (map f xs) ≡ None → slice_get xs k ≡ Some x → IsFirstAt (λ y. bytes_eq (f y) (f x)) xs k
first_named f xs k x unique at = record {
  at =
      ap (λ n. position_or_len (λ y. bytes_eq (f y) n) xs) (sym (name_there f xs k x at))
      ∙ sym (position-map (λ m. bytes_eq m (name_at (map f xs) k)) f xs)
      ∙ position_is (map f xs) k unique (within_names f xs k x at);
  within = slice_get_within xs k x at;
}

-- and those before it have others
pub other_before : {X : Type 0} (f : X → List ℕ) (xs : List X) (j k : ℕ) (y x : X) → repeated (map f xs) ≡ None → j < k → slice_get xs j ≡ Some y → slice_get xs k ≡ Some x → bytes_eq (f y) (f x) ≡ false
other_before f xs j k y x unique l a b =
    (λ i. bytes_eq (sym (name_there f xs j y a) i) (sym (name_there f xs k x b) i))
    ∙ same_name (map f xs) j k unique (within_names f xs j y a) (within_names f xs k x b)
    ∙ ne_eqb j k (λ e. absurd (omega (arith, e, l)))

-- ---- what stands beside it

pub beside_first : {X : Type 0} (test : X → Bool) (xs : List X) (ps : List ℕ) (k a : ℕ) → IsFirstAt test xs k → slice_get ps k ≡ Some a → option_map_or (λ e. e.1) (find (λ e. test e.0) (zip xs ps)) 0 ≡ a
beside_first test [] ps k a h at = absurd (omega (arith, h.within))
beside_first test (x ∷ xs) [] k a h at = absurd cc
beside_first {X} test (x ∷ xs) (p ∷ ps) zero a h at =
    elim (test x) as (λ b. cond (not b) (1 + position_or_len test xs) 0 ≡ 0 → option_map_or (λ (e : X × ℕ). e.1) (cond b (Some (x, p)) (find (λ e. test e.0) (zip xs ps))) 0 ≡ a) [
      | true ↦ λ e. cc
      | false ↦ λ e. absurd (omega (arith, e))
    ] h.at
beside_first {X} test (x ∷ xs) (p ∷ ps) (suc k) a h at =
    elim (test x) as (λ b. cond (not b) (1 + position_or_len test xs) 0 ≡ suc k → option_map_or (λ (e : X × ℕ). e.1) (cond b (Some (x, p)) (find (λ e. test e.0) (zip xs ps))) 0 ≡ a) [
      | true ↦ λ e. absurd (omega (arith, e))
      | false ↦ λ e. beside_first test xs ps k a (record { at = omega (arith, e); within = omega (arith, h.within) }) at
    ] h.at
