-- Names that are looked up, with one name more.
use Rattle.std.proofs.Common.{◌≡◌, ℕ, ◌+◌, ◌<◌, true, false, cond, List, [], ◌∷◌, ◌++◌, length, refl, sym, ap, ◌∙◌, get_or, take}
use Rattle.std.specs.Prelude.{◌||◌}
use Rattle.std.specs.List.{list_any}
use Rattle.std.specs.Str.{bytes_eq}
use Rattle.std.specs.Cmp.Lexicographic.{nat_list_eq_equiv}
use Rattle.std.proofs.lemmas.List.Folds.{list_any-append, list_any_more}
use Rattle.std.proofs.lemmas.Slice.Eq.{bytes_eq-Decides}
use Rattle.std.proofs.Math.Bool.{or-false, or-true}
use Rattle.indexmap.specs.IndexSet.{insert_key}
use Rattle.policy_lawful.specs.Rules.{is_declared}
use Rattle.policy_lawful.proofs.NameSets.{declared_is}
use Rattle.policy_rules.specs.Names.{HasAll}

-- the first list, searched for a name as a set of names searches, has just the names of the second
abbrev FindsAll : List (List ℕ) → List (List ℕ) → Type 0
FindsAll all names = (n : List ℕ) → list_any (bytes_eq n) all ≡ is_declared names n

found_more : (all names : List (List ℕ)) (i : ℕ) (name : List ℕ) → FindsAll all (take i names) → i < length names → name ≡ get_or names i name → FindsAll (insert_key bytes_eq all name) (take (i + 1) names)
found_more all names i name h l is n =
    let had = is_declared (take i names) n in
    let more : is_declared (take (i + 1) names) n ≡ (had || bytes_eq name n) =
    list_any_more (λ m. bytes_eq m n) names i name l ∙ ap (λ m. had || bytes_eq m n) (sym is) in
    elim (list_any (bytes_eq name) all) as (λ b. list_any (bytes_eq name) all ≡ b → list_any (bytes_eq n) (cond b all (all ++ name ∷ [])) ≡ is_declared (take (i + 1) names) n) [
      | true ↦ λ e.
          h n
          ∙ (elim (bytes_eq name n) as (λ b. bytes_eq name n ≡ b → had ≡ (had || b)) [
            | true ↦ λ t.
                let same : name ≡ n = (bytes_eq-Decides name n).0 t in
                let there : had ≡ true = sym (h n) ∙ (ap (λ m. list_any (bytes_eq m) all) (sym same) ∙ e) in
                there ∙ sym (or-true had)
            | false ↦ λ t. sym (or-false had)
          ] refl ∙ sym more)
      | false ↦ λ e.
          list_any-append (bytes_eq n) all (name ∷ [])
          ∙ ((λ j. h n j || or-false (bytes_eq n name) j) ∙ (ap (λ b. had || b) (nat_list_eq_equiv.symm n name) ∙ sym more))
    ] refl

pub all_more : (all names : List (List ℕ)) (i : ℕ) (name : List ℕ) → HasAll all (take i names) → i < length names → name ≡ get_or names i name → HasAll (insert_key bytes_eq all name) (take (i + 1) names)
all_more all names i name h l is n =
    sym (declared_is (insert_key bytes_eq all name) n) ∙ found_more all names i name (λ m. declared_is all m ∙ h m) l is n
