-- Names in a list: one that is sought, and one that stood before.
use Rattle.std.proofs.Common.{◌≡◌, ℕ, Bool, true, false, cond, List, [], ◌∷◌, length, Option, Some, None, refl, sym, ap, ◌∙◌, arith}
use Rattle.std.specs.Prelude.{not, ◌+◌, ◌||◌, nat_lt, is_some, position, IfSome}
use Rattle.std.specs.List.{list_any, position_or_len}
use Rattle.std.specs.Str.{bytes_eq}
use Rattle.std.proofs.lemmas.Bool.{lt-ltb}
use Rattle.std.proofs.lemmas.Bool.Decides.{nat_tests}
use Rattle.std.proofs.lemmas.List.{append-nil}
use Rattle.std.proofs.lemmas.List.Quantifiers.{position-Some}
use Rattle.std.proofs.lemmas.Slice.Eq.{bytes_eq-Decides}
use Rattle.muen_num.specs.Search.{unless}
use Rattle.policy_lawful.specs.Offences.{broken, two}
use Rattle.policy_lawful.specs.Resolution.{name_at}
use Rattle.policy_lawful.specs.Rules.{is_declared, undeclared}
use Rattle.policy_lawful.proofs.NameSets.{after_is, repeated_after}
use Rattle.policy_names.specs.Parts.{repeats, repeats_behind}
use Rattle.policy_names.specs.Indexes.{StandsFor}
use Rattle.policy_lawful.specs.refusal.Refusal.TheVariants.{Rule}

-- ---- a name that is sought

-- an index that was found
pub found : (names : List (List ℕ)) (name : List ℕ) (index : ℕ) → position (λ n. bytes_eq n name) names ≡ Some index → StandsFor (name_at names) (λ k. nat_lt k (length names)) name index
found names name index h =
    let at = position-Some (λ n. bytes_eq n name) names index [] h in
    record { same = (bytes_eq-Decides (name_at names index) name).0 at.1; there = lt-ltb index (length names) at.0 }

pub found_if : (names : List (List ℕ)) (name : List ℕ) (o : Option ℕ) → o ≡ position (λ n. bytes_eq n name) names → IfSome o (StandsFor (name_at names) (λ k. nat_lt k (length names)) name)
found_if names name None h = tt
found_if names name (Some index) h = found names name index (sym h)

-- there is an index just where the name is declared
in_front : {X : Type 0} (p : X → Bool) (xs : List X) → nat_lt (position_or_len p xs) (length xs) ≡ list_any p xs
in_front p [] = refl
in_front p (x ∷ xs) =
    elim (p x) as (λ b. nat_lt (cond (not b) (1 + position_or_len p xs) 0) (length (x ∷ xs)) ≡ (b || list_any p xs)) [
      | true ↦ grind (arith, nat_tests)
      | false ↦ let less : nat_lt (1 + position_or_len p xs) (length (x ∷ xs)) ≡ nat_lt (position_or_len p xs) (length xs) = grind (arith, nat_tests) in less ∙ in_front p xs
    ]

is_there : (b : Bool) (index : ℕ) → is_some (cond b (Some index) None) ≡ b
is_there true index = refl
is_there false index = refl

pub has_index : (names : List (List ℕ)) (name : List ℕ) → is_some (position (λ n. bytes_eq n name) names) ≡ is_declared names name
has_index names name =
    is_there (nat_lt (position_or_len (λ n. bytes_eq n name) names) (length names)) (position_or_len (λ n. bytes_eq n name) names)
    ∙ in_front (λ n. bytes_eq n name) names

-- what a reference offends against, as the search for its index tells
pub offends : (by : List ℕ) (names : List (List ℕ)) (name : List ℕ) (o : Option ℕ) → o ≡ position (λ n. bytes_eq n name) names
    → broken 2 (undeclared by (names, name)) ≡ cond (is_some o) None (Some (Rule 2 by name))
offends by names name o h =
    ap (λ b. broken 2 (unless b (two by name))) (sym (ap is_some h ∙ has_index names name)) ∙ refused (is_some o)
  where
    refused : (b : Bool) → broken 2 (unless b (two by name)) ≡ cond b None (Some (Rule 2 by name))
    refused true = refl
    refused false = refl

-- ---- a name that stood before

-- so says the search
pub repeated_from : (before names : List (List ℕ)) → repeated_after before names ≡ repeats_behind before names
unfolding repeats_behind
repeated_from before names = after_is before names

pub ruleset behind = (repeated_from, append-nil)

-- where none stand in front, those that repeat are those that do by themselves
pub none_in_front : (names : List (List ℕ)) → repeats_behind [] names ≡ repeats names
unfolding repeats repeats_behind
none_in_front names = refl
