-- Numbered names are names.
use Rattle.std.proofs.Common.{◌≡◌, ℕ, ◌+◌, ◌%◌, ◌<◌, ◌≤◌, ◌^◌, true, List, [], ◌∷◌, ◌++◌, length, refl, ◌∙◌, arith, length-append}
use Rattle.std.specs.Prelude.{◌&&◌, nat_lt, nat_le, decimal}
use Rattle.std.specs.List.{list_all}
use Rattle.std.proofs.lemmas.Bool.{agree_below_at, lt-ltb, le-leb, and_from}
use Rattle.std.proofs.lemmas.List.Folds.{list_all-append}
use Rattle.std.proofs.lemmas.Fmt.{decimal_by_steps, decimal_nonempty, length-decimal-le}
use Rattle.muen_num.specs.declared.limits.TheConstants.{NAME_MOST}
use Rattle.muen_num.specs.Naming.{is_name_byte, is_name}

digit : (d : ℕ) → d < 10 → is_name_byte (48 + d) ≡ true
digit d h = agree_below_at (λ k. is_name_byte (48 + k)) (λ _. true) 10 d refl h

digits : (n : ℕ) → n < 2 ^ 64 → list_all is_name_byte (decimal n) ≡ true
digits n h =
    decimal_by_steps (λ _ ds. list_all is_name_byte ds ≡ true)
    (λ m l. and_from (is_name_byte (48 + m)) true (digit m l) refl)
    (λ m ds _ before.
    list_all-append is_name_byte ds ((48 + m % 10) ∷ [])
    ∙ and_from (list_all is_name_byte ds) (is_name_byte (48 + m % 10) && true) before
    (and_from (is_name_byte (48 + m % 10)) true (digit (m % 10) (omega arith)) refl))
    n h

-- a name byte or several, and a number behind them
pub numbered_is_name : (front : List ℕ) (n : ℕ) → list_all is_name_byte front ≡ true → length front ≤ 40 → n < 2 ^ 64 → is_name (front ++ decimal n) ≡ true
unfolding is_name
numbered_is_name front n bytes short small =
    let some : 0 < length (decimal n) = decimal_nonempty n small in
    let few : length (decimal n) ≤ 20 = length-decimal-le 20 n (omega arith) (omega arith) small in
    let both : length (front ++ decimal n) ≡ length front + length (decimal n) = length-append front (decimal n) in
    let all : list_all is_name_byte (front ++ decimal n) ≡ true =
    list_all-append is_name_byte front (decimal n) ∙ and_from (list_all is_name_byte front) (list_all is_name_byte (decimal n)) bytes (digits n small) in
    let least : nat_lt 0 (length (front ++ decimal n)) ≡ true = lt-ltb 0 (length (front ++ decimal n)) (omega arith) in
    let most : nat_le (length (front ++ decimal n)) NAME_MOST ≡ true = le-leb (length (front ++ decimal n)) NAME_MOST (omega arith) in
    and_from (nat_lt 0 (length (front ++ decimal n)) && nat_le (length (front ++ decimal n)) NAME_MOST) (list_all is_name_byte (front ++ decimal n))
    (and_from (nat_lt 0 (length (front ++ decimal n))) (nat_le (length (front ++ decimal n)) NAME_MOST) least most) all
