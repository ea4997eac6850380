-- The reader of a number's characters in turn, and the number that their groups spell.
use Rattle.std.proofs.Common.{◌≡◌, ℕ, ◌+◌, ◌*◌, ◌^◌, ◌<◌, ◌≤◌, Bool, true, false, cond, List, [], ◌∷◌, length, refl, sym, ap, ◌∙◌, arith}
use Rattle.std.specs.Prelude.{◌==◌, ◌&&◌, ◌||◌, Option, Some, None, fold, nat_lt, if◌then◌else◌}
use Rattle.std.specs.List.{concat, list_all, onto_first}
use Rattle.std.proofs.lemmas.Bool.Decides.{nat_tests}
use Rattle.std.proofs.lemmas.List.Splits.{length-slice_split}
use Rattle.std.specs.Char.{is_digit, digit_value}
use Rattle.std.proofs.Math.Bool.{and_assoc}
use Rattle.text_words.specs.Groups.{underscore, groups_of, is_digit_group, with_digit, hexadecimal_value_of, number_of_groups}

-- the number once these characters are read too, where the digits before them are worth n,
-- and `begun` says whether the group that goes on here has a digit
abbrev pub read_on : ℕ → Bool → List ℕ → Option ℕ
read_on n begun [] = if begun then Some n else None
read_on n begun (c ∷ rest) =
    if c == underscore then (if begun then read_on n false rest else None)
    else if is_digit c 16 then (if nat_lt (n * 16 + digit_value c) (2 ^ 64) then read_on (n * 16 + digit_value c) true rest else None)
    else None

-- the groups have a digit each, where the first may have begun before
abbrev all_groups : Bool → List (List ℕ) → Bool
all_groups begun [] = false
all_groups begun (g ∷ gs) = (begun || nat_lt 0 (length g)) && (list_all (λ c. is_digit c 16) g && list_all is_digit_group gs)

abbrev bounded : Bool → ℕ → Option ℕ
bounded fits n = if fits && nat_lt n (2 ^ 64) then Some n else None

-- the number of these groups, with n before them
abbrev number_after : ℕ → Bool → List (List ℕ) → Option ℕ
number_after n begun groups = bounded (all_groups begun groups) (fold with_digit n (concat groups))

grows : (n : ℕ) (cs : List ℕ) → n ≤ fold with_digit n cs
grows n [] = omega arith
grows n (c ∷ cs) = omega (arith, grows (with_digit n c) cs)

first_begins : (gs : List (List ℕ)) → 0 < length gs → list_all is_digit_group gs ≡ all_groups false gs
first_begins [] h = absurd (omega arith)
first_begins (g ∷ gs) h = and_assoc (nat_lt 0 (length g)) (list_all (λ c. is_digit c 16) g) (list_all is_digit_group gs)

with_first : (c : ℕ) (gs : List (List ℕ)) → concat (onto_first c gs) ≡ c ∷ concat gs
with_first c [] = refl
with_first c (g ∷ gs) = refl

-- put before a group, a character makes it a group of one or more
more_than_none : (c : ℕ) (g : List ℕ) → (false || nat_lt 0 (length (c ∷ g))) ≡ true
more_than_none c g = grind (arith, nat_tests)

begun_by : (begun : Bool) (c : ℕ) (gs : List (List ℕ)) → 0 < length gs → all_groups begun (onto_first c gs) ≡ (is_digit c 16 && all_groups true gs)
begun_by begun c [] h = absurd (omega arith)
begun_by true c (g ∷ gs) h = and_assoc (is_digit c 16) (list_all (λ c. is_digit c 16) g) (list_all is_digit_group gs)
begun_by false c (g ∷ gs) h =
    ap (λ b. b && (list_all (λ c. is_digit c 16) (c ∷ g) && list_all is_digit_group gs)) (more_than_none c g) ∙ and_assoc (is_digit c 16) (list_all (λ c. is_digit c 16) g) (list_all is_digit_group gs)

-- a text has at least one group
some_group : (cs : List ℕ) → 0 < length (groups_of cs)
some_group cs = omega (arith, length-slice_split (λ c. c == underscore) cs)

too_great : (fits : Bool) (n v : ℕ) → 2 ^ 64 ≤ n → n ≤ v → bounded fits v ≡ None
too_great true n v h k = grind (arith, nat_tests)
too_great false n v h k = refl

ended : (n : ℕ) (begun : Bool) → n < 2 ^ 64 → read_on n begun [] ≡ number_after n begun (groups_of [])
ended n true h = grind (arith, nat_tests)
ended n false h = refl

-- behind an underscore
parted : (n : ℕ) (begun : Bool) (rest : List ℕ) → read_on n false rest ≡ number_after n false (groups_of rest)
    → (if begun then read_on n false rest else None) ≡ number_after n begun ([] ∷ groups_of rest)
parted n true rest e = e ∙ ap (λ b. bounded b (fold with_digit n (concat (groups_of rest)))) (sym (first_begins (groups_of rest) (some_group rest)))
parted n false rest e = refl

-- behind a digit worth v
go_on : (n v : ℕ) (rest : List ℕ) (fits : Bool) → fits ≡ nat_lt (n * 16 + v) (2 ^ 64)
    → (n * 16 + v < 2 ^ 64 → read_on (n * 16 + v) true rest ≡ number_after (n * 16 + v) true (groups_of rest))
    → (if fits then read_on (n * 16 + v) true rest else None) ≡ number_after (n * 16 + v) true (groups_of rest)
go_on n v rest true t e = e (grind (arith, nat_tests))
go_on n v rest false t e =
    sym (too_great (all_groups true (groups_of rest)) (n * 16 + v) (fold with_digit (n * 16 + v) (concat (groups_of rest))) (grind (arith, nat_tests)) (grows (n * 16 + v) (concat (groups_of rest))))

no_digit : (n : ℕ) (begun : Bool) (c : ℕ) (gs : List (List ℕ)) → 0 < length gs → is_digit c 16 ≡ false → number_after n begun (onto_first c gs) ≡ None
no_digit n begun c gs h d =
    ap (λ b. bounded b (fold with_digit n (concat (onto_first c gs)))) (begun_by begun c gs h ∙ ap (λ t. t && all_groups true gs) d)

one_digit : (n : ℕ) (begun : Bool) (c : ℕ) (gs : List (List ℕ)) → 0 < length gs → is_digit c 16 ≡ true
    → number_after n begun (onto_first c gs) ≡ number_after (n * 16 + digit_value c) true gs
one_digit n begun c gs h d =
    ap (λ b. bounded b (fold with_digit n (concat (onto_first c gs)))) (begun_by begun c gs h ∙ ap (λ t. t && all_groups true gs) d)
    ∙ ap (λ l. bounded (all_groups true gs) (fold with_digit n l)) (with_first c gs)

-- behind a character that is a digit, or is none
spelled : (n : ℕ) (begun : Bool) (c : ℕ) (rest : List ℕ) (digit : Bool) → is_digit c 16 ≡ digit
    → ((m : ℕ) → m < 2 ^ 64 → read_on m true rest ≡ number_after m true (groups_of rest))
    → (if digit then (if nat_lt (n * 16 + digit_value c) (2 ^ 64) then read_on (n * 16 + digit_value c) true rest else None) else None)
    ≡ number_after n begun (onto_first c (groups_of rest))
spelled n begun c rest false d e = sym (no_digit n begun c (groups_of rest) (some_group rest) d)
spelled n begun c rest true d e = go_on n (digit_value c) rest _ refl (e (n * 16 + digit_value c)) ∙ sym (one_digit n begun c (groups_of rest) (some_group rest) d)

pub read_on_is : (n : ℕ) (begun : Bool) (cs : List ℕ) → n < 2 ^ 64 → read_on n begun cs ≡ number_after n begun (groups_of cs)
read_on_is n begun [] h = ended n begun h
read_on_is n begun (c ∷ rest) h =
    elim (c == underscore)
    as (λ b. (if b then (if begun then read_on n false rest else None)
    else if is_digit c 16 then (if nat_lt (n * 16 + digit_value c) (2 ^ 64) then read_on (n * 16 + digit_value c) true rest else None)
    else None)
    ≡ number_after n begun (cond b ([] ∷ groups_of rest) (onto_first c (groups_of rest)))) [
      | true ↦ parted n begun rest (read_on_is n false rest h)
      | false ↦ spelled n begun c rest (is_digit c 16) refl (λ m k. read_on_is m true rest k)
    ]

pub read_on_groups : (cs : List ℕ) → read_on 0 false cs ≡ number_of_groups (groups_of cs)
read_on_groups cs = read_on_is 0 false cs (omega arith) ∙ ap (λ b. bounded b (hexadecimal_value_of (concat (groups_of cs)))) (sym (first_begins (groups_of cs) (some_group cs)))
