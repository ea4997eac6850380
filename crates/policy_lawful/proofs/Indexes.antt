-- What stands at an index is found by its name, where names are unique.
use Rattle.std.proofs.Common.{◌≡◌, ℕ, zero, suc, ◌+◌, ◌<◌, true, cond, not, List, [], ◌∷◌, ◌++◌, length, map, None, sym, ap, ◌∙◌, arith, append_assoc, length-append}
use Rattle.std.specs.Prelude.{◌==◌, slice_get}
use Rattle.std.specs.List.{find, position_or_len}
use Rattle.std.specs.Str.{bytes_eq}
use Rattle.std.proofs.lemmas.Bool.Decides.{Decides-eqb, same_from_decides}
use Rattle.std.proofs.lemmas.List.{length-map}
use Rattle.std.proofs.lemmas.List.Folds.{find_at}
use Rattle.std.proofs.lemmas.Slice.Eq.{bytes_eq-Decides}
use Rattle.muen_num.specs.Search.{first_in, first_after, unless}
use Rattle.policy_lawful.specs.Offences.{alone}
use Rattle.policy_lawful.specs.Rules.{repeated}
use Rattle.policy_lawful.specs.Resolution.{name_at}
use Rattle.policy_lawful.specs.declared.offence.Offence.{Offence}
use Rattle.muen_num.proofs.Lists.{position-map}
use Rattle.muen_num.proofs.SearchLaws.{none_both, unless_none}
use Rattle.muen_num.proofs.Lookups.{same_self}

-- ---- indexes

-- none of these names is n
abbrev OtherNames : List (List ℕ) → List ℕ → Type 0
OtherNames before n = first_in (λ b. unless {O = Offence} (not (bytes_eq b n)) (alone n)) before ≡ None

passed : (before : List (List ℕ)) (n : List ℕ) (rest : List (List ℕ)) → OtherNames before n → position_or_len (λ m. bytes_eq m n) (before ++ n ∷ rest) ≡ length before
passed [] n rest h = ap (λ b. cond (not b) (1 + position_or_len (λ m. bytes_eq m n) rest) 0) (same_self n)
passed (b ∷ bs) n rest h =
    let both = none_both (unless {O = Offence} (not (bytes_eq b n)) (alone n)) (first_in (λ b. unless (not (bytes_eq b n)) (alone n)) bs) h in
    let other : not (bytes_eq b n) ≡ true = unless_none _ _ both.0 in
    let later : position_or_len (λ m. bytes_eq m n) (bs ++ n ∷ rest) ≡ length bs = passed bs n rest both.1 in
    ap (λ t. cond t (1 + position_or_len (λ m. bytes_eq m n) (bs ++ n ∷ rest)) 0) other ∙ omega (arith, later)

abbrev Distinct : List (List ℕ) → List (List ℕ) → Type 0
Distinct before names =
    first_after (λ before x. first_in (λ b. unless {O = Offence} (not (bytes_eq b x)) (alone x)) before) before names ≡ None

position_after : (before names : List (List ℕ)) (k : ℕ) → Distinct before names → k < length names → position_or_len (λ m. bytes_eq m (name_at names k)) (before ++ names) ≡ length before + k
position_after before [] k h l = absurd (omega arith)
position_after before (n ∷ ns) zero h l =
    let both = none_both (first_in (λ b. unless {O = Offence} (not (bytes_eq b n)) (alone n)) before) _ h in
    let here : position_or_len (λ m. bytes_eq m n) (before ++ n ∷ ns) ≡ length before = passed before n ns both.0 in
    omega (arith, here)
position_after before (n ∷ ns) (suc k) h l =
    let both = none_both (first_in (λ b. unless {O = Offence} (not (bytes_eq b n)) (alone n)) before) _ h in
    let later : position_or_len (λ m. bytes_eq m (name_at ns k)) ((before ++ n ∷ []) ++ ns) ≡ length (before ++ n ∷ []) + k = position_after (before ++ n ∷ []) ns k both.1 (omega arith) in
    let same : position_or_len (λ m. bytes_eq m (name_at ns k)) (before ++ n ∷ ns) ≡ position_or_len (λ m. bytes_eq m (name_at ns k)) ((before ++ n ∷ []) ++ ns) = ap (position_or_len (λ m. bytes_eq m (name_at ns k))) (sym (append_assoc before (n ∷ []) ns)) in
    let one : length (before ++ n ∷ []) ≡ length before + 1 = length-append before (n ∷ []) in
    omega (arith, later, same, one)

pub position_is : (names : List (List ℕ)) (k : ℕ) → repeated names ≡ None → k < length names → position_or_len (λ m. bytes_eq m (name_at names k)) names ≡ k
position_is names k h l =
    let e : position_or_len (λ m. bytes_eq m (name_at names k)) names ≡ 0 + k = position_after [] names k h l in
    omega (arith, e)

-- two indexes have the same name just where they are the same index
pub same_name : (names : List (List ℕ)) (j k : ℕ) → repeated names ≡ None → j < length names → k < length names → bytes_eq (name_at names j) (name_at names k) ≡ (j == k)
same_name names j k unique a b =
    let at_j : position_or_len (λ m. bytes_eq m (name_at names j)) names ≡ j = position_is names j unique a in
    let at_k : position_or_len (λ m. bytes_eq m (name_at names k)) names ≡ k = position_is names k unique b in
    let d = bytes_eq-Decides (name_at names j) (name_at names k) in
    same_from_decides _ _
    (λ e. sym at_j ∙ (ap (λ n. position_or_len (λ m. bytes_eq m n) names) (d.0 e) ∙ at_k), λ e. d.1 (ap (name_at names) e))
    (Decides-eqb j k)

-- what stands at an index, by its name
pub found_at_index : {X : Type 0} (f : X → List ℕ) (xs : List X) (k : ℕ) → repeated (map f xs) ≡ None → k < length xs → find (λ x. bytes_eq (f x) (name_at (map f xs) k)) xs ≡ slice_get xs k
found_at_index f xs k h l =
    let many : length (map f xs) ≡ length xs = length-map xs f in
    find_at (λ x. bytes_eq (f x) (name_at (map f xs) k)) xs
    ∙ ap (slice_get xs) (sym (position-map (λ m. bytes_eq m (name_at (map f xs) k)) f xs) ∙ position_is (map f xs) k h (omega (arith, many, l)))
