-- What the searches in the document's order find in a list that is joined of two, and when they find nothing.
use Rattle.std.proofs.Common.{◌≡◌, ℕ, zero, suc, ◌+◌, ◌<◌, true, List, [], ◌∷◌, ◌++◌, length, get_or, take, drop, Option, Some, None, refl, sym, ap, ◌∙◌, arith}
use Rattle.std.specs.Option.{option_or, is_some}
use Rattle.std.specs.List.{AllPairs}
use Rattle.std.proofs.lemmas.List.{append-nil, append_assoc, get_or_append_left, length_push, take-append-drop, take_more}
use Rattle.muen_num.specs.Search.{first_in, first_after, first_pair}
use Rattle.muen_num.proofs.SearchLaws.{none_both, option_or-None, option_or_assoc}

-- ---- the first element, and that none is found just where none offends

pub none_at : {X O : Type 0} (at : X → Option O) (xs : List X) → first_in at xs ≡ None → (k : ℕ) (d : X) → k < length xs → at (get_or xs k d) ≡ None
none_at at [] e k d h = absurd (omega arith)
none_at at (x ∷ xs) e zero d h = (none_both (at x) (first_in at xs) e).0
none_at at (x ∷ xs) e (suc k) d h = none_at at xs (none_both (at x) (first_in at xs) e).1 k d (omega arith)

pub none_from : {X O : Type 0} (at : X → Option O) (xs : List X) → ((k : ℕ) (d : X) → k < length xs → at (get_or xs k d) ≡ None) → first_in at xs ≡ None
none_from at [] h = refl
none_from at (x ∷ xs) h =
    ap (λ o. option_or o (first_in at xs)) (h 0 x (omega arith)) ∙ none_from at xs (λ k d l. h (suc k) d (omega arith))

-- ---- the first pair

-- an element with the first of those before it that it offends with
abbrev pub with_earlier : {X O : Type 0} → (X → X → Option O) → List X → X → Option O
with_earlier at before x = first_in (λ b. at b x) before

first_after-append : {X O : Type 0} (at : List X → X → Option O) (before xs ys : List X) → first_after at before (xs ++ ys) ≡ option_or (first_after at before xs) (first_after at (before ++ xs) ys)
first_after-append at before [] ys = ap (λ b. first_after at b ys) (sym (append-nil before))
first_after-append at before (x ∷ xs) ys =
    let rest : first_after at (before ++ x ∷ []) (xs ++ ys) ≡ option_or (first_after at (before ++ x ∷ []) xs) (first_after at (before ++ x ∷ xs) ys) =
    first_after-append at (before ++ x ∷ []) xs ys
    ∙ ap (λ b. option_or (first_after at (before ++ x ∷ []) xs) (first_after at b ys)) (append_assoc before (x ∷ []) xs) in
    ap (option_or (at before x)) rest
    ∙ sym (option_or_assoc (at before x) (first_after at (before ++ x ∷ []) xs) (first_after at (before ++ x ∷ xs) ys))

-- a pair that is found stays the first, whatever follows
pub first_pair-append : {X O : Type 0} (at : X → X → Option O) (xs ys : List X) → first_pair at (xs ++ ys) ≡ option_or (first_pair at xs) (first_after (with_earlier at) xs ys)
first_pair-append at xs ys = first_after-append (with_earlier at) [] xs ys

-- one more element may be the later one of a pair
pub first_pair-push : {X O : Type 0} (at : X → X → Option O) (xs : List X) (x : X) → first_pair at (xs ++ x ∷ []) ≡ option_or (first_pair at xs) (first_in (λ b. at b x) xs)
first_pair-push at xs x =
    first_pair-append at xs (x ∷ []) ∙ ap (option_or (first_pair at xs)) (option_or-None (first_in (λ b. at b x) xs))

-- where no pair is found, and some elements stood before, no two elements offend of which the later one was searched
no_pair_after : {X O : Type 0} (at : X → X → Option O) (before xs : List X) → first_after (with_earlier at) before xs ≡ None → (i j : ℕ) (d : X) → i < length before + j → j < length xs → at (get_or (before ++ xs) i d) (get_or xs j d) ≡ None
no_pair_after at before [] e i j d l m = absurd (omega arith)
no_pair_after at before (x ∷ xs) e i zero d l m =
    let here : first_in (λ b. at b x) before ≡ None = (none_both (with_earlier at before x) (first_after (with_earlier at) (before ++ x ∷ []) xs) e).0 in
    let k : i < length before = omega arith in
    ap (λ b. at b x) (get_or_append_left before (x ∷ xs) d i k) ∙ none_at (λ b. at b x) before here i d k
no_pair_after at before (x ∷ xs) e i (suc j) d l m =
    let rest : first_after (with_earlier at) (before ++ x ∷ []) xs ≡ None = (none_both (with_earlier at before x) (first_after (with_earlier at) (before ++ x ∷ []) xs) e).1 in
    let k : i < length (before ++ x ∷ []) + j = omega (arith, length_push before x) in
    ap (λ whole. at (get_or whole i d) (get_or xs j d)) (sym (append_assoc before (x ∷ []) xs))
    ∙ no_pair_after at (before ++ x ∷ []) xs rest i j d k (omega arith)

-- and back
no_pair_from : {X O : Type 0} (at : X → X → Option O) (before xs : List X) → ((i j : ℕ) (d : X) → i < length before + j → j < length xs → at (get_or (before ++ xs) i d) (get_or xs j d) ≡ None) → first_after (with_earlier at) before xs ≡ None
no_pair_from at before [] h = refl
no_pair_from at before (x ∷ xs) h =
    let here : first_in (λ b. at b x) before ≡ None =
    none_from (λ b. at b x) before (λ k d l. ap (λ b. at b x) (sym (get_or_append_left before (x ∷ xs) d k l)) ∙ h k 0 d (omega arith) (omega arith)) in
    let rest : first_after (with_earlier at) (before ++ x ∷ []) xs ≡ None =
    no_pair_from at (before ++ x ∷ []) xs (λ i j d l m.
    ap (λ whole. at (get_or whole i d) (get_or xs j d)) (append_assoc before (x ∷ []) xs)
    ∙ h i (suc j) d (omega (arith, length_push before x)) (omega arith)) in
    ap (λ o. option_or o (first_after (with_earlier at) (before ++ x ∷ []) xs)) here ∙ rest

-- no pair is found just where no two elements offend, the earlier first
pub pairs_at : {X O : Type 0} (at : X → X → Option O) (xs : List X) → first_pair at xs ≡ None → AllPairs (λ a b. at a b ≡ None) xs
pairs_at at xs e i j d l m = no_pair_after at [] xs e i j d (omega arith) m

pub pairs_from : {X O : Type 0} (at : X → X → Option O) (xs : List X) → AllPairs (λ a b. at a b ≡ None) xs → first_pair at xs ≡ None
pairs_from at xs h = no_pair_from at [] xs (λ i j d l m. h i j d (omega arith) m)

some_first : {O : Type 0} (a b : Option O) → is_some a ≡ true → option_or a b ≡ a
some_first None b e = absurd (cc)
some_first (Some x) b e = refl

-- the later one of the first pair is the last element of the least front that has a pair
pub first_pair-last : {X O : Type 0} (at : X → X → Option O) (xs : List X) (n : ℕ) (d : X) → n < length xs → first_pair at (take n xs) ≡ None → is_some (first_pair at (take (n + 1) xs)) ≡ true → first_pair at xs ≡ first_in (λ b. at b (get_or xs n d)) (take n xs)
first_pair-last at xs n d l none some =
    let front : first_pair at (take (n + 1) xs) ≡ first_in (λ b. at b (get_or xs n d)) (take n xs) =
    ap (first_pair at) (take_more xs n d l)
    ∙ first_pair-push at (take n xs) (get_or xs n d)
    ∙ ap (λ o. option_or o (first_in (λ b. at b (get_or xs n d)) (take n xs))) none in
    ap (first_pair at) (sym (take-append-drop (n + 1) xs))
    ∙ first_pair-append at (take (n + 1) xs) (drop (n + 1) xs)
    ∙ some_first _ _ some
    ∙ front
