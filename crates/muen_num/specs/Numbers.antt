-- Lists of numbers, and what is asked of numbers.
use Rattle.std.specs.Prelude.{ℕ, ◌==◌, ◌%◌, ◌&&◌, Bool, true, not, List, [], ◌∷◌, replicate}
use Rattle.std.specs.List.{list_any}
use Rattle.muen_num.specs.declared.limits.TheConstants.{PAGE}

-- the number stands in the list
abbrev pub is_among : List ℕ → ℕ → Bool
is_among ns n = list_any (λ m. m == n) ns

-- some number stands in both lists
abbrev pub share : List ℕ → List ℕ → Bool
share one other = list_any (is_among other) one

-- no two of these numbers are equal
abbrev pub are_distinct : List ℕ → Bool
are_distinct [] = true
are_distinct (n ∷ ns) = not (list_any (λ m. m == n) ns) && are_distinct ns

-- so many zeros
unfoldable pub zeros : ℕ → List ℕ
zeros n = replicate n 0

-- a page begins there
abbrev pub is_page_aligned : ℕ → Bool
is_page_aligned n = n % PAGE == 0
