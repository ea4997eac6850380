-- Searches for the first answer: one behind another, over lists that are joined or mapped, and those that find nothing.
use Rattle.std.proofs.Common.{◌≡◌, ℕ, ◌+◌, Bool, true, false, List, [], ◌∷◌, ◌++◌, map, Option, Some, None, refl, sym, ap, ◌∙◌}
use Rattle.std.specs.List.{flat_map, list_all, enumerate_from}
use Rattle.std.specs.Option.{option_or}
use Rattle.std.proofs.lemmas.Bool.{and_from}
use Rattle.muen_num.specs.Search.{unless, first_in}

-- ---- one answer or another

-- of three answers the first, however they are taken together
pub option_or_assoc : {O : Type 0} (a b c : Option O) → option_or (option_or a b) c ≡ option_or a (option_or b c)
option_or_assoc None b c = refl
option_or_assoc (Some x) b c = refl

-- no answer behind one changes it
pub option_or-None : {O : Type 0} (o : Option O) → option_or o None ≡ o
option_or-None None = refl
option_or-None (Some x) = refl

-- where neither of two finds anything, nor does each
pub none_both : {O : Type 0} (a b : Option O) → option_or a b ≡ None → (a ≡ None) × (b ≡ None)
none_both None b h = (refl, h)
none_both (Some x) b h = absurd (cc)

-- what doesn't offend passes the test
pub unless_none : {O : Type 0} (b : Bool) (o : O) → unless b o ≡ None → b ≡ true
unless_none true o h = refl
unless_none false o h = absurd (cc)

-- ---- over a list

-- a list that is joined of two is searched one after the other
pub first_in-append : {X O : Type 0} (at : X → Option O) (xs ys : List X) → first_in at (xs ++ ys) ≡ option_or (first_in at xs) (first_in at ys)
first_in-append at [] ys = refl
first_in-append at (x ∷ xs) ys =
    ap (option_or (at x)) (first_in-append at xs ys) ∙ sym (option_or_assoc (at x) (first_in at xs) (first_in at ys))

-- of many, one after another
pub first_in-flat_map : {X Y O : Type 0} (at : Y → Option O) (f : X → List Y) (xs : List X) → first_in at (flat_map f xs) ≡ first_in (λ x. first_in at (f x)) xs
first_in-flat_map at f [] = refl
first_in-flat_map at f (x ∷ xs) = first_in-append at (f x) (flat_map f xs) ∙ ap (option_or (first_in at (f x))) (first_in-flat_map at f xs)

-- where nothing is found in it, nor is in either
pub none_append : {X O : Type 0} (at : X → Option O) (xs ys : List X) → first_in at (xs ++ ys) ≡ None → (first_in at xs ≡ None) × (first_in at ys ≡ None)
none_append at xs ys h = none_both (first_in at xs) (first_in at ys) (sym (first_in-append at xs ys) ∙ h)

-- a search of the images
pub first_over-map : {X Y O : Type 0} (f : X → Y) (at : Y → Option O) (xs : List X) → first_in at (map f xs) ≡ first_in (λ x. at (f x)) xs
first_over-map f at [] = refl
first_over-map f at (x ∷ xs) = ap (option_or (at (f x))) (first_over-map f at xs)

-- ---- searches that find nothing

-- where no element has an answer, each passes the test that this tells
pub all_none : {X O : Type 0} (test : X → Bool) (at : X → Option O) → ((x : X) → at x ≡ None → test x ≡ true) → (xs : List X) → first_in at xs ≡ None → list_all test xs ≡ true
all_none test at passes [] h = refl
all_none test at passes (x ∷ xs) h =
    let both = none_both (at x) (first_in at xs) h in
    and_from (test x) (list_all test xs) (passes x both.0) (all_none test at passes xs both.1)

-- where no element offends, each passes the test
pub all_pass : {X O : Type 0} (test : X → Bool) (o : X → O) (xs : List X) → first_in (λ x. unless (test x) (o x)) xs ≡ None → list_all test xs ≡ true
all_pass test o xs h = all_none test (λ x. unless (test x) (o x)) (λ x. unless_none (test x) (o x)) xs h

-- where none offends with its index, each passes
pub all_numbered : {X O : Type 0} (test : X → Bool) (at : ℕ × X → Option O) → ((k : ℕ) (x : X) → at (k, x) ≡ None → test x ≡ true) → (k : ℕ) (xs : List X) → first_in at (enumerate_from k xs) ≡ None → list_all test xs ≡ true
all_numbered test at passes k [] h = refl
all_numbered test at passes k (x ∷ xs) h =
    let both = none_both (at (k, x)) (first_in at (enumerate_from (k + 1) xs)) h in
    and_from (test x) (list_all test xs) (passes k x both.0) (all_numbered test at passes (k + 1) xs both.1)
