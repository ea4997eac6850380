-- Lists of what is noted at each index, one item more at a time.
use Rattle.std.proofs.Common.{◌≡◌, ℕ, ◌+◌, ◌<◌, Bool, true, false, cond, List, [], ◌∷◌, ◌++◌, length, map, get_or, take, refl, sym, ap, ◌∙◌, arith}
use Rattle.std.specs.Prelude.{◌==◌, filter}
use Rattle.std.specs.List.{enumerate_from, flat_map}
use Rattle.std.proofs.lemmas.Grind.{flat_map-append}
use Rattle.std.proofs.lemmas.List.{append-nil, length-take-le, map-append, take_more}
use Rattle.std.proofs.lemmas.List.Concat.{flat_map-cons}
use Rattle.std.proofs.lemmas.List.Elements.{filter-append}
use Rattle.muen_num.proofs.Lists.{enumerate_push}
use Rattle.rules_channels.specs.ByIndex.{items_at_index}

module _ {X : Type 0} where
  -- of two lists the items of one and then of the other
  pub items-append : (k : ℕ) (xs ys : List (ℕ × X)) → items_at_index k (xs ++ ys) ≡ items_at_index k xs ++ items_at_index k ys
  items-append k xs ys = ap (map (λ x. x.1)) (filter-append (λ x. x.0 == k) xs ys) ∙ map-append (λ x. x.1) (filter (λ x. x.0 == k) xs) (filter (λ x. x.0 == k) ys)

  -- of a list that is filtered, the items that pass
  pub items-filter : (test : X → Bool) (k : ℕ) (xs : List (ℕ × X)) → items_at_index k (filter (λ x. test x.1) xs) ≡ filter test (items_at_index k xs)
  items-filter test k [] = refl
  items-filter test k (x ∷ xs) =
      let rest = items-filter test k xs in
      elim (test x.1) as (λ t. (test x.1 ≡ t → items_at_index k (cond t (x ∷ filter (λ x. test x.1) xs) (filter (λ x. test x.1) xs)) ≡ filter test (items_at_index k (x ∷ xs)))) [
        | true ↦ λ e. passed x xs rest e (x.0 == k)
        | false ↦ λ e. failed x xs rest e (x.0 == k)
      ] refl
    where
      passed : (x : ℕ × X) (xs : List (ℕ × X)) → items_at_index k (filter (λ x. test x.1) xs) ≡ filter test (items_at_index k xs) → test x.1 ≡ true → (b : Bool)
          → map (λ y. y.1) (cond b (x ∷ filter (λ y. y.0 == k) (filter (λ x. test x.1) xs)) (filter (λ y. y.0 == k) (filter (λ x. test x.1) xs))) ≡ filter test (map (λ y. y.1) (cond b (x ∷ filter (λ y. y.0 == k) xs) (filter (λ y. y.0 == k) xs)))
      passed x xs rest e true = ap (λ ys. x.1 ∷ ys) rest ∙ ap (λ t. cond t (x.1 ∷ filter test (items_at_index k xs)) (filter test (items_at_index k xs))) (sym e)
      passed x xs rest e false = rest

      failed : (x : ℕ × X) (xs : List (ℕ × X)) → items_at_index k (filter (λ x. test x.1) xs) ≡ filter test (items_at_index k xs) → test x.1 ≡ false → (b : Bool)
          → items_at_index k (filter (λ x. test x.1) xs) ≡ filter test (map (λ y. y.1) (cond b (x ∷ filter (λ y. y.0 == k) xs) (filter (λ y. y.0 == k) xs)))
      failed x xs rest e true = rest ∙ ap (λ t. cond t (x.1 ∷ filter test (items_at_index k xs)) (filter test (items_at_index k xs))) (sym e)
      failed x xs rest e false = rest

-- one element more, with its index
pub flat_more : {S X : Type 0} (f : ℕ × S → List X) (ss : List S) (i : ℕ) (s : S) → i < length ss → s ≡ get_or ss i s
    → flat_map f (enumerate_from 0 (take (i + 1) ss)) ≡ flat_map f (enumerate_from 0 (take i ss)) ++ f (i, s)
flat_more f ss i s within is =
    let index : 0 + length (take i ss) ≡ i = omega (arith, length-take-le i ss (omega arith)) in
    ap (λ xs. flat_map f (enumerate_from 0 xs)) (take_more ss i s within)
    ∙ ap (flat_map f) (enumerate_push 0 (take i ss) (get_or ss i s))
    ∙ flat_map-append f (enumerate_from 0 (take i ss)) ((0 + length (take i ss), get_or ss i s) ∷ [])
    ∙ ap (λ ys. flat_map f (enumerate_from 0 (take i ss)) ++ ys) (flat_map-cons f (0 + length (take i ss), get_or ss i s) [] ∙ append-nil (f (0 + length (take i ss), get_or ss i s)))
    ∙ ap (λ n. flat_map f (enumerate_from 0 (take i ss)) ++ f (n, get_or ss i s)) index
    ∙ ap (λ x. flat_map f (enumerate_from 0 (take i ss)) ++ f (i, x)) (sym is)
