-- How many pages tables take: it depends on which ranges there are, not on their order, and it isn't many.
use Rattle.std.proofs.Common.{◌≡◌, ℕ, zero, suc, ◌+◌, ◌*◌, ◌^◌, ◌≤◌, Bool, true, false, List, arith}
use Rattle.std.specs.List.Sorted.{IsPermutation}
use Rattle.std.proofs.lemmas.List.Sorted.{list_any-IsPermutation}
use Rattle.ept_emit.specs.Pages.{count, ept_pages, is_taken, one, touches}
use Rattle.ept_emit.specs.declared.window.GuestRange.{GuestRange}

-- ---- whatever the order

taken_permuted : (ws vs : List GuestRange) → IsPermutation ws vs → (entry_size v : ℕ) → is_taken ws entry_size v ≡ is_taken vs entry_size v
taken_permuted ws vs p entry_size v = list_any-IsPermutation (λ w. touches w (entry_size * v) entry_size) ws vs p

-- ranges take as many in one order as in another
pub pages_permuted : (ws vs : List GuestRange) → IsPermutation ws vs → ept_pages ws ≡ ept_pages vs
pages_permuted ws vs p =
    λ i. 1 + count (λ v. taken_permuted ws vs p (2 ^ 39) v i) 0 (2 ^ 9) + count (λ v. taken_permuted ws vs p (2 ^ 30) v i) 0 (2 ^ 18) + count (λ v. taken_permuted ws vs p (2 ^ 21) v i) 0 (2 ^ 27)

-- ---- not many

one_at_most : (b : Bool) → one b ≤ 1
one_at_most true = omega arith
one_at_most false = omega arith

count_at_most : (p : ℕ → Bool) (lo n : ℕ) → count p lo n ≤ n
unfolding count
count_at_most p lo zero = omega arith
count_at_most p lo (suc n) =
    let before = count_at_most p lo n in
    let here = one_at_most (p (lo + n)) in
    omega arith

-- their bytes are far fewer than 2^64
pub few_pages : (ws : List GuestRange) (n : ℕ) → n ≡ ept_pages ws → n ≤ 2 ^ 28
few_pages ws n e =
    let pointers = count_at_most (is_taken ws (2 ^ 39)) 0 (2 ^ 9) in
    let directories = count_at_most (is_taken ws (2 ^ 30)) 0 (2 ^ 18) in
    let tables = count_at_most (is_taken ws (2 ^ 21)) 0 (2 ^ 27) in
    omega (arith, e)
