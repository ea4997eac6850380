-- Two lists that rise share what their rests share, where the lesser of the first indexes is passed.
use Rattle.std.proofs.Common.{◌≡◌, ℕ, ◌+◌, ◌-◌, ◌<◌, ◌≤◌, true, false, List, length, get_or, drop, ap, ◌∙◌, sym, arith, length-drop}
use Rattle.std.specs.Prelude.{◌||◌}
use Rattle.std.proofs.lemmas.Bool.{eq-eqb}
use Rattle.std.proofs.lemmas.List.{drop_all, drop_more, get_or-drop}
use Rattle.rules_events.specs.Listings.{Rises}
use Rattle.muen_num.specs.Numbers.{is_among, share}
use Rattle.rules_events.proofs.Rising.{nowhere}
use Rattle.rules_events.proofs.Shares.{none_shared, one_more}

-- an index that is less than one of a list stands nowhere from there on
above : (xs : List ℕ) (i x : ℕ) → Rises xs → x < get_or xs i 0 → is_among (drop i xs) x ≡ false
above xs i x up less =
    nowhere (drop i xs) x (λ k l e.
    let there : get_or (drop i xs) k 0 ≡ get_or xs (i + k) 0 = get_or-drop i xs k 0 in
    let many : length (drop i xs) ≡ length xs - i = length-drop i xs in
    let s : get_or xs i 0 ≤ get_or xs (i + k) 0 = up i (i + k) (omega arith) (omega (arith, l, many)) in
    omega (arith, there, s, less, e))

pub one_passed : (xs ys : List ℕ) (i j : ℕ) → Rises ys → i < length xs → get_or xs i 0 < get_or ys j 0 → share (drop i xs) (drop j ys) ≡ share (drop (i + 1) xs) (drop j ys)
one_passed xs ys i j up l less =
    ap (λ zs. share zs (drop j ys)) (drop_more xs i 0 l)
    ∙ ap (λ b. b || share (drop (i + 1) xs) (drop j ys)) (above ys j (get_or xs i 0) up less)

pub other_passed : (xs ys : List ℕ) (i j : ℕ) → Rises xs → j < length ys → get_or ys j 0 < get_or xs i 0 → share (drop i xs) (drop j ys) ≡ share (drop i xs) (drop (j + 1) ys)
other_passed xs ys i j up l less =
    ap (share (drop i xs)) (drop_more ys j 0 l)
    ∙ one_more (get_or ys j 0) (drop i xs) (drop (j + 1) ys)
    ∙ ap (λ b. b || share (drop i xs) (drop (j + 1) ys)) (above xs i (get_or ys j 0) up less)

pub first_shared : (xs ys : List ℕ) (i j : ℕ) → i < length xs → j < length ys → get_or xs i 0 ≡ get_or ys j 0 → share (drop i xs) (drop j ys) ≡ true
first_shared xs ys i j l m same =
    ap (λ zs. share zs (drop j ys)) (drop_more xs i 0 l)
    ∙ ap (λ b. b || share (drop (i + 1) xs) (drop j ys))
    (ap (λ zs. is_among zs (get_or xs i 0)) (drop_more ys j 0 m)
    ∙ ap (λ b. b || is_among (drop (j + 1) ys) (get_or xs i 0)) (eq-eqb (get_or ys j 0) (get_or xs i 0) (sym same)))

pub one_ends : (xs ys : List ℕ) (i j : ℕ) → length xs ≤ i → share (drop i xs) (drop j ys) ≡ false
one_ends xs ys i j l = ap (λ zs. share zs (drop j ys)) (drop_all i xs l)

pub other_ends : (xs ys : List ℕ) (i j : ℕ) → length ys ≤ j → share (drop i xs) (drop j ys) ≡ false
other_ends xs ys i j l = ap (share (drop i xs)) (drop_all j ys l) ∙ none_shared (drop i xs)
