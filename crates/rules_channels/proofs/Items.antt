-- What is noted at an index is what refers to it by its name.
use Rattle.std.proofs.Common.{◌≡◌, ℕ, ◌+◌, Bool, true, false, cond, List, [], ◌∷◌, ◌++◌, map, refl, sym, ap, ◌∙◌}
use Rattle.std.specs.Prelude.{◌==◌, filter}
use Rattle.std.specs.List.{enumerate_from, flat_map, list_all}
use Rattle.std.proofs.lemmas.Bool.{and_parts}
use Rattle.std.proofs.lemmas.List.{map-append}
use Rattle.std.proofs.lemmas.List.Concat.{flat_map-cons}
use Rattle.rules_channels.specs.ByIndex.{items_at_index}
use Rattle.rules_channels.proofs.NotedItems.{items-append}

-- of one list of references, each noted at its index
pub of_one : {E E2 P N : Type 0} (test : E2 → Bool) (named : E → E2) (index : E → ℕ) (ok : E → Bool) (k : ℕ) → ((e : E) → ok e ≡ true → test (named e) ≡ (index e == k))
    → (out : E2 → N) (item : E → P) (f : P → N) → ((e : E) → f (item e) ≡ out (named e))
    → (es : List E) → list_all ok es ≡ true → map out (filter test (map named es)) ≡ map f (items_at_index k (map (λ e. (index e, item e)) es))
of_one test named index ok k same out item f is [] all = refl
of_one {E} {E2} {P} {N} test named index ok k same out item f is (e ∷ es) all =
    let parts = and_parts (ok e) (list_all ok es) all in
    let rest = of_one test named index ok k same out item f is es parts.1 in
    let left : List E2 = filter test (map named es) in
    let right : List (ℕ × P) = filter (λ x. x.0 == k) (map (λ e. (index e, item e)) es) in
    ap (λ b. map out (cond b (named e ∷ left) left)) (same e parts.0)
    ∙ elim (index e == k) as (λ b. map out (cond b (named e ∷ left) left) ≡ map f (map (λ x. x.1) (cond b ((index e, item e) ∷ right) right))) [
      | true ↦ ap (λ n. n ∷ map out left) (sym (is e)) ∙ ap (λ ns. f (item e) ∷ ns) rest
      | false ↦ rest
    ]

-- of many lists, each with its index
pub of_all : {S S2 P N : Type 0} (named : S → S2) (ok : S → Bool) (k : ℕ) (by_name : S2 → List N) (noted : ℕ × S → List (ℕ × P)) (f : P → N)
    → ((n : ℕ) (s : S) → ok s ≡ true → by_name (named s) ≡ map f (items_at_index k (noted (n, s))))
    → (n : ℕ) (ss : List S) → list_all ok ss ≡ true → flat_map by_name (map named ss) ≡ map f (items_at_index k (flat_map noted (enumerate_from n ss)))
of_all named ok k by_name noted f same n [] all = refl
of_all named ok k by_name noted f same n (s ∷ ss) all =
    let parts = and_parts (ok s) (list_all ok ss) all in
    flat_map-cons by_name (named s) (map named ss)
    ∙ ap (λ ys. ys ++ flat_map by_name (map named ss)) (same n s parts.0)
    ∙ ap (λ ys. map f (items_at_index k (noted (n, s))) ++ ys) (of_all named ok k by_name noted f same (n + 1) ss parts.1)
    ∙ sym (map-append f (items_at_index k (noted (n, s))) (items_at_index k (flat_map noted (enumerate_from (n + 1) ss))))
    ∙ ap (map f) (sym (items-append k (noted (n, s)) (flat_map noted (enumerate_from (n + 1) ss))))
    ∙ ap (λ ys. map f (items_at_index k ys)) (sym (flat_map-cons noted (n, s) (enumerate_from (n + 1) ss)))
