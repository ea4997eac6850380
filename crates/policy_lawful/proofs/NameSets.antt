-- Names in a list. A set of names compares the name that is sought with those of the list, the rules compare these with it.
use Rattle.std.proofs.Common.{◌≡◌, ℕ, Bool, true, false, cond, List, [], ◌∷◌, ◌++◌, length, map, Option, Some, None, refl, sym, ap, ◌∙◌}
use Rattle.std.specs.Prelude.{if◌then◌else◌, not, ◌||◌, nat_lt, position, slice_get}
use Rattle.std.specs.List.{find, list_any, position_or_len}
use Rattle.std.specs.Option.{option_or}
use Rattle.std.specs.Str.{bytes_eq}
use Rattle.std.specs.Cmp.Lexicographic.{nat_list_eq_equiv}
use Rattle.std.proofs.lemmas.List.{length-map}
use Rattle.std.proofs.lemmas.List.Folds.{find_at}
use Rattle.muen_num.specs.Search.{first_after, first_in, unless}
use Rattle.muen_num.proofs.Lists.{position-map}
use Rattle.policy_lawful.specs.Offences.{alone}
use Rattle.policy_lawful.specs.Rules.{is_declared, repeated}
use Rattle.policy_lawful.specs.declared.offence.Offence.{Offence}
use Rattle.policy_lawful.proofs.Positions.{position_found, position_none, position_same}

-- ---- a name that is sought

pub declared_is : (names : List (List ℕ)) (name : List ℕ) → list_any (bytes_eq name) names ≡ is_declared names name
declared_is [] name = refl
declared_is (n ∷ ns) name = rw (nat_list_eq_equiv.symm n name, ← declared_is ns name) refl

pub position_is : (names : List (List ℕ)) (name : List ℕ) → position (bytes_eq name) names ≡ position (λ n. bytes_eq n name) names
position_is names name =
    ap (λ k. cond (nat_lt k (length names)) (Some k) None) (position_same (bytes_eq name) (λ n. bytes_eq n name) (λ n. nat_list_eq_equiv.symm name n) names)

-- the element of a name that stands at an index
stands_at : {X : Type 0} (f : X → List ℕ) (xs : List X) (name : List ℕ) → find (λ x. bytes_eq (f x) name) xs ≡ slice_get xs (position_or_len (λ n. bytes_eq n name) (map f xs))
stands_at f xs name =
    find_at (λ x. bytes_eq (f x) name) xs ∙ ap (slice_get xs) (sym (position-map (λ n. bytes_eq n name) f xs))

pub found_by_index : {X : Type 0} (f : X → List ℕ) (xs : List X) (name : List ℕ) (k : ℕ) → position (λ n. bytes_eq n name) (map f xs) ≡ Some k → slice_get xs k ≡ find (λ x. bytes_eq (f x) name) xs
found_by_index f xs name k e =
    ap (slice_get xs) (sym (position_found (λ n. bytes_eq n name) (map f xs) k e)) ∙ sym (stands_at f xs name)

pub not_found : {X : Type 0} (f : X → List ℕ) (xs : List X) (name : List ℕ) → position (λ n. bytes_eq n name) (map f xs) ≡ None → None ≡ find (λ x. bytes_eq (f x) name) xs
not_found f xs name e =
    sym (
    stands_at f xs name
    ∙ ap (slice_get xs) (position_none (λ n. bytes_eq n name) (map f xs) e ∙ length-map xs f)
    ∙ none_there xs
    )
  where
    none_there : {X : Type 0} (xs : List X) → slice_get xs (length xs) ≡ None
    none_there [] = refl
    none_there (x ∷ xs) = none_there xs

-- ---- names that stood before

pub stood_before : (before : List (List ℕ)) (name : List ℕ) → first_in (λ a. unless (not (bytes_eq a name)) (alone name)) before ≡ cond (list_any (bytes_eq name) before) (Some (alone name)) None
stood_before [] name = refl
stood_before (n ∷ ns) name =
    rw (nat_list_eq_equiv.symm n name, stood_before ns name)
    (elim (bytes_eq name n) as (λ t. option_or (unless (not t) (alone name)) (cond (list_any (bytes_eq name) ns) (Some (alone name)) None) ≡ cond (t || list_any (bytes_eq name) ns) (Some (alone name)) None) [
      | true ↦ refl
      | false ↦ refl
    ])

pub cond_or : {O : Type 0} (t : Bool) (o : O) (rest : Option O) → option_or (cond t (Some o) None) rest ≡ cond t (Some o) rest
cond_or true o rest = refl
cond_or false o rest = refl

-- the first of these names that stood before, where they come after those
abbrev pub repeated_after : List (List ℕ) → List (List ℕ) → Option Offence
repeated_after before [] = None
repeated_after before (n ∷ ns) = if list_any (bytes_eq n) before then Some (alone n) else repeated_after (before ++ n ∷ []) ns

pub after_is : (before names : List (List ℕ)) → repeated_after before names ≡ first_after (λ before b. first_in (λ a. unless (not (bytes_eq a b)) (alone b)) before) before names
after_is before [] = refl
after_is before (n ∷ ns) = rw (stood_before before n, ← after_is (before ++ n ∷ []) ns, cond_or) refl

pub repeated_from_start : (names : List (List ℕ)) → repeated_after [] names ≡ repeated names
repeated_from_start names = after_is [] names
