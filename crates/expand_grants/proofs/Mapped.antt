-- Lists of images, some of which may be missing: one element more, and those of other elements, the same one by one.
use Rattle.std.proofs.Common.{◌≡◌, ℕ, ◌+◌, ◌<◌, Bool, true, List, [], ◌∷◌, ◌++◌, length, map, get_or, take, Option, refl, sym, ap, subst, ◌∙◌, arith}
use Rattle.std.specs.List.{cons_option, enumerate_from, filter_map, flat_map, list_all}
use Rattle.std.proofs.lemmas.Bool.{and_parts}
use Rattle.std.proofs.lemmas.Grind.{flat_map-append}
use Rattle.std.proofs.lemmas.List.{append-nil, append_assoc, length-take-le, take_more}
use Rattle.std.proofs.lemmas.List.Concat.{flat_map-cons}
use Rattle.std.proofs.lemmas.List.Elements.{filter_map-append}
use Rattle.muen_num.proofs.Lists.{enumerate_push}

-- ---- one element more

pub filter_more : {X Y : Type 0} (f : X → Option Y) (xs : List X) (i : ℕ) (d : X) → i < length xs
    → filter_map f (take (i + 1) xs) ≡ filter_map f (take i xs) ++ cons_option (f (get_or xs i d)) []
filter_more f xs i d within = ap (filter_map f) (take_more xs i d within) ∙ filter_map-append f (take i xs) (get_or xs i d ∷ [])

-- one more behind a front that stays, where the elements are read off a list that is this one
pub pushed_more : {X Y : Type 0} (f : X → Option Y) (front : List Y) (xs read : List X) (i : ℕ) (d : X) (now : List Y) (o : Option Y) → read ≡ xs → i < length read → now ≡ front ++ filter_map f (take i xs) → o ≡ f (get_or read i d)
    → now ++ cons_option o [] ≡ front ++ filter_map f (take (i + 1) xs)
pushed_more f front xs read i d now o same within had is =
    (λ k. had k ++ cons_option ((is ∙ ap (λ ys. f (get_or ys i d)) same) k) [])
    ∙ append_assoc front (filter_map f (take i xs)) (cons_option (f (get_or xs i d)) [])
    ∙ ap (λ ys. front ++ ys) (sym (filter_more f xs i d (subst (λ ys. i < length ys) same within)))

-- ---- the same one by one

-- of those that pass
pub filter_maps_same : {X Y V : Type 0} (f : Y → Option V) (n : X → Y) (g : X → Option V) (ok : X → Bool)
    → ((x : X) → ok x ≡ true → f (n x) ≡ g x) → (xs : List X) → list_all ok xs ≡ true → filter_map f (map n xs) ≡ filter_map g xs
filter_maps_same f n g ok same [] all = refl
filter_maps_same f n g ok same (x ∷ xs) all =
    let parts = and_parts (ok x) (list_all ok xs) all in
    ap (λ o. cons_option o (filter_map f (map n xs))) (same x parts.0)
    ∙ ap (cons_option (g x)) (filter_maps_same f n g ok same xs parts.1)

pub flat_maps_same : {X Y V : Type 0} (f : Y → List V) (n : X → Y) (g : X → List V) (ok : X → Bool)
    → ((x : X) → ok x ≡ true → f (n x) ≡ g x) → (xs : List X) → list_all ok xs ≡ true → flat_map f (map n xs) ≡ flat_map g xs
flat_maps_same f n g ok same [] all = refl
flat_maps_same f n g ok same (x ∷ xs) all =
    let parts = and_parts (ok x) (list_all ok xs) all in
    flat_map-cons f (n x) (map n xs)
    ∙ ap (λ ys. ys ++ flat_map f (map n xs)) (same x parts.0)
    ∙ ap (λ ys. g x ++ ys) (flat_maps_same f n g ok same xs parts.1)
    ∙ sym (flat_map-cons g x xs)

-- ---- elements with their indexes

-- one element more, with its index
pub flat_more : {S X : Type 0} (f : ℕ × S → List X) (ss read : List S) (i : ℕ) (s d : S) → read ≡ ss → i < length read → s ≡ get_or read i d
    → flat_map f (enumerate_from 0 (take (i + 1) ss)) ≡ flat_map f (enumerate_from 0 (take i ss)) ++ f (i, s)
flat_more f ss read i s d same within is =
    let here : i < length ss = subst (λ xs. i < length xs) same within in
    let there : s ≡ get_or ss i d = is ∙ ap (λ xs. get_or xs i d) same in
    let index : 0 + length (take i ss) ≡ i = omega (arith, length-take-le i ss (omega arith)) in
    ap (λ xs. flat_map f (enumerate_from 0 xs)) (take_more ss i d here)
    ∙ ap (flat_map f) (enumerate_push 0 (take i ss) (get_or ss i d))
    ∙ flat_map-append f (enumerate_from 0 (take i ss)) ((0 + length (take i ss), get_or ss i d) ∷ [])
    ∙ ap (λ ys. flat_map f (enumerate_from 0 (take i ss)) ++ ys) (flat_map-cons f (0 + length (take i ss), get_or ss i d) [] ∙ append-nil (f (0 + length (take i ss), get_or ss i d)))
    ∙ ap (λ n. flat_map f (enumerate_from 0 (take i ss)) ++ f (n, get_or ss i d)) index
    ∙ ap (λ x. flat_map f (enumerate_from 0 (take i ss)) ++ f (i, x)) (sym there)
