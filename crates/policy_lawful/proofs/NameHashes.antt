-- Names that a digest has taken.
use Rattle.std.proofs.Common.{◌≡◌, ℕ, ◌+◌, ◌<◌, ◌≤◌, List, [], ◌∷◌, ◌++◌, length, map, take, get_or, sym, ap, ◌∙◌, subst, append_assoc, append-nil, take_all}
use Rattle.std.specs.List.{flat_map}
use Rattle.std.proofs.lemmas.Grind.{take_at_read}
use Rattle.std.proofs.lemmas.List.{map-append}
use Rattle.std.proofs.lemmas.List.Concat.{flat_map-append}
use Rattle.sha2.specs.Hashers.{Holds256}
use Rattle.sha2.specs.declared.Sha256.{Sha256}
use Rattle.policy_lawful.specs.NameHashes.{ended}

abbrev Names : Type 0
Names = List (List ℕ)

-- a hasher has taken these names
abbrev Taken : Sha256 → Names → Type 0
Taken hasher names = Holds256 hasher (flat_map ended names)

-- a name more, and the zero behind it
pub one_more : (hasher : Sha256) (names : Names) (name : List ℕ) → Holds256 hasher ((flat_map ended names ++ name) ++ 0 ∷ []) → Taken hasher (names ++ name ∷ [])
one_more hasher names name h =
    let shown : (flat_map ended names ++ name) ++ 0 ∷ [] ≡ flat_map ended (names ++ name ∷ []) =
    append_assoc (flat_map ended names) name (0 ∷ [])
    ∙ ap (λ t. flat_map ended names ++ t) (sym (append-nil (ended name)))
    ∙ sym (flat_map-append ended names (name ∷ [])) in
    subst (Holds256 hasher) shown h

-- ---- the names of elements, in turn

pub none_yet : (hasher : Sha256) (names : Names) → Taken hasher names → Taken hasher (names ++ [])
none_yet hasher names h = subst (Taken hasher) (sym (append-nil names)) h

module _ {X : Type 0} (f : X → List ℕ) (xs : List X) where
  pub next_name : (hasher : Sha256) (names : Names) (i : ℕ) (x : X) → i < length xs → x ≡ get_or xs i x → Taken hasher ((names ++ map f (take i xs)) ++ f x ∷ []) → Taken hasher (names ++ map f (take (i + 1) xs))
  next_name hasher names i x less is h =
      let front : take (i + 1) xs ≡ take i xs ++ x ∷ [] = (take_at_read xs i x less).1 ∙ ap (λ y. take i xs ++ y ∷ []) (sym is) in
      let shown : (names ++ map f (take i xs)) ++ f x ∷ [] ≡ names ++ map f (take (i + 1) xs) =
      append_assoc names (map f (take i xs)) (f x ∷ []) ∙ ap (λ t. names ++ t) (sym (ap (map f) front ∙ map-append f (take i xs) (x ∷ []))) in
      subst (Taken hasher) shown h

  pub all_names : (hasher : Sha256) (names : Names) (i : ℕ) → length xs ≤ i → Taken hasher (names ++ map f (take i xs)) → Taken hasher (names ++ map f xs)
  all_names hasher names i all h = subst (λ ys. Taken hasher (names ++ map f ys)) (take_all i xs all) h
