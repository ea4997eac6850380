-- Searches for the first answer, an element further.
use Rattle.std.proofs.Common.{◌≡◌, ℕ, suc, ◌+◌, ◌<◌, List, [], ◌∷◌, ◌++◌, length, get_or, take, drop, drop-cons, add-one, Option, sym, ap, ◌∙◌}
use Rattle.std.specs.List.{enumerate_from}
use Rattle.std.specs.Option.{option_or}
use Rattle.std.proofs.lemmas.List.{take_more}
use Rattle.muen_num.specs.Search.{first_in, first_after}

-- the rest of a list from an element on: its answer, or else that of the rest behind it
pub first_step : {X O : Type 0} (at : X → Option O) (xs : List X) (i : ℕ) (x : X) (r : Option O) → i < length xs → x ≡ get_or xs i x → r ≡ at x → first_in at (drop i xs) ≡ option_or r (first_in at (drop (i + 1) xs))
first_step at xs i x r within is says =
    ap (first_in at) (drop-cons xs i x within) ∙ ap (λ z. option_or (at z) (first_in at (drop (suc i) xs))) (sym is)
    ∙ ap (λ z. option_or z (first_in at (drop (suc i) xs))) (sym says) ∙ ap (λ n. option_or r (first_in at (drop n xs))) (sym (add-one i))

-- the same of a list with its indexes
pub first_numbered_step : {X O : Type 0} (at : ℕ × X → Option O) (xs : List X) (i : ℕ) (x : X) (r : Option O) → i < length xs → x ≡ get_or xs i x → r ≡ at (i, x)
    → first_in at (enumerate_from i (drop i xs)) ≡ option_or r (first_in at (enumerate_from (i + 1) (drop (i + 1) xs)))
first_numbered_step at xs i x r within is says =
    ap (λ ys. first_in at (enumerate_from i ys)) (drop-cons xs i x within)
    ∙ ap (λ z. option_or (at (i, z)) (first_in at (enumerate_from (i + 1) (drop (suc i) xs)))) (sym is)
    ∙ ap (λ z. option_or z (first_in at (enumerate_from (i + 1) (drop (suc i) xs)))) (sym says)
    ∙ ap (λ n. option_or r (first_in at (enumerate_from (i + 1) (drop n xs)))) (sym (add-one i))

-- the rest of a list where each is held against those before it
pub first_after_step : {X O : Type 0} (at : List X → X → Option O) (xs : List X) (i : ℕ) (x : X) (r : Option O) → i < length xs → x ≡ get_or xs i x → r ≡ at (take i xs) x
    → first_after at (take i xs) (drop i xs) ≡ option_or r (first_after at (take (i + 1) xs) (drop (i + 1) xs))
first_after_step at xs i x r within is says =
    let more : take i xs ++ x ∷ [] ≡ take (i + 1) xs = ap (λ z. take i xs ++ z ∷ []) is ∙ sym (take_more xs i x within) in
    ap (first_after at (take i xs)) (drop-cons xs i x within) ∙ ap (λ z. first_after at (take i xs) (z ∷ drop (suc i) xs)) (sym is)
    ∙ ap (λ z. option_or z (first_after at (take i xs ++ x ∷ []) (drop (suc i) xs))) (sym says)
    ∙ ap (λ ys. option_or r (first_after at ys (drop (suc i) xs))) more ∙ ap (λ n. option_or r (first_after at (take (i + 1) xs) (drop n xs))) (sym (add-one i))
