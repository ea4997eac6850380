-- Ranges in any order that share no address, and those that rise.
use Rattle.std.proofs.Common.{◌≡◌, ℕ, ◌+◌, ◌<◌, ◌≢◌, ◌⊎◌, ◌↔◌, inl, inr, Bool, true, false, leb, List, length, get_or, refl, sym, ap, ◌∙◌, arith}
use Rattle.std.specs.List as words
use Rattle.std.specs.List.{AllAdjacentBelow, IsAllAdjacentAnswer}
use Rattle.std.specs.List.Sorted.{IsPermutation, IsNonDecreasingBy}
use Rattle.std.proofs.lemmas.Bool.{cases_eq, cases_order, leb-true, le-leb, false≢true}
use Rattle.std.proofs.lemmas.List.Edits.{Swapped, swapped_from_swap, length-swap}
use Rattle.std.proofs.lemmas.List.Sorted.{IsNonDecreasingBy-from_all_adjacent, IsPermutation-keeps}
use Rattle.rules_extents.specs.declared.overlap.AddressRange.{AddressRange}
use Rattle.rules_extents.specs.AddressRange.{IsApart, IsBelow, sum_of_ends}

-- each two elements are related, in both orders
abbrev pub EachTwo : {X : Type 0} → (X → X → Type 0) → List X → Type 0
EachTwo {X} R xs = (i j : ℕ) (d : X) → i < length xs → j < length xs → i ≢ j → R (get_or xs i d) (get_or xs j d)

-- ---- in any order

-- where an element came from
abbrev CameFrom : {X : Type 0} → (ℕ → X) → (ℕ → X) → ℕ → ℕ → ℕ → ℕ → Type 0
CameFrom f g a b i k = (g i ≡ f k) × (((i ≡ a) × (k ≡ b)) ⊎ (((i ≡ b) × (k ≡ a)) ⊎ ((i ≢ a) × (i ≢ b) × (k ≡ i))))

came_from : {X : Type 0} (f g : ℕ → X) (a b i : ℕ) → Swapped f g a b → (k : ℕ) × CameFrom f g a b i k
came_from f g a b i s =
    elim (cases_eq i a) [
      | inl e ↦ (b, (ap g e ∙ s.0, inl (e, refl)))
      | inr n ↦ elim (cases_eq i b) [
        | inl e ↦ (a, (ap g e ∙ s.1, inr (inl (e, refl))))
        | inr m ↦ (i, (s.2 i n m, inr (inr (n, m, refl))))
      ]
    ]

swap_keeps : {X : Type 0} (R : X → X → Type 0) (xs : List X) (a b : ℕ) → a < length xs → b < length xs → EachTwo R xs → EachTwo R (words.swap xs a b)
swap_keeps R xs a b la lb h i j d li lj n =
    let s = swapped_from_swap xs (words.swap xs a b) a b d la lb refl in
    let many : length (words.swap xs a b) ≡ length xs = length-swap xs a b in
    let (k, fk) = came_from (λ i. get_or xs i d) (λ i. get_or (words.swap xs a b) i d) a b i s in
    let (m, fm) = came_from (λ i. get_or xs i d) (λ i. get_or (words.swap xs a b) i d) a b j s in
    rw (fk.0, fm.0) (h k m d (omega arith) (omega arith) (omega arith))

pub EachTwo-permutation : {X : Type 0} (R : X → X → Type 0) (xs ys : List X) → IsPermutation xs ys → EachTwo R xs → EachTwo R ys
EachTwo-permutation R xs ys p h = IsPermutation-keeps xs (EachTwo R) h (λ l i j li lj q. swap_keeps R l i j li lj q) ys p

-- ---- in their order

-- where each ends before the next begins, they are in the order of their addresses
pub addresses_rise : (xs : List AddressRange) → AllAdjacentBelow IsBelow xs (length xs) → IsNonDecreasingBy (λ s. s.address) xs
addresses_rise xs near = IsNonDecreasingBy-from_all_adjacent (λ s. s.address) xs (λ k d l. let here = near k d l in omega arith)

-- .. and each two are apart
pub apart_from_neighbours : (xs : List AddressRange) → AllAdjacentBelow IsBelow xs (length xs) → EachTwo IsApart xs
apart_from_neighbours xs near i j d li lj n =
    let up = addresses_rise xs near in
    elim (cases_order i j) [
      | inl e ↦ absurd (n e)
      | inr m ↦ elim m [
        | inl l ↦
            let here = near i d (omega arith) in
            let on = up (i + 1) j d (omega arith) lj in
            inl (omega arith)
        | inr l ↦
            let here = near j d (omega arith) in
            let on = up (j + 1) i d (omega arith) li in
            inr (omega arith)
      ]
    ]

-- and back, where they are in the order of the sums of their ends: of two that are apart the lower one has less, and
-- where both have the same they are empty, at one address
pub neighbours_from_apart : (xs : List AddressRange) → IsNonDecreasingBy sum_of_ends xs → EachTwo IsApart xs → AllAdjacentBelow IsBelow xs (length xs)
neighbours_from_apart xs up h k d l =
    let on = up k (k + 1) d (omega arith) l in
    elim (h k (k + 1) d (omega arith) l (omega arith)) [ inl e ↦ e | inr e ↦ omega (arith, on, e) ]

-- what a test of neighbours answers
pub below_is : (xs : List AddressRange) (r : Bool) → IsAllAdjacentAnswer (λ a b t. t ≡ leb (a.address + a.size) b.address) xs r → (r ≡ true) ↔ AllAdjacentBelow IsBelow xs (length xs)
below_is xs true h = (λ e k d l. leb-true _ _ (sym (h k d l)), λ all. refl)
below_is xs false h = (
  λ e. absurd (false≢true e),
  λ all.
      let none : AddressRange = record { address = 0; size = 0 } in
      absurd (false≢true (h.2 none ∙ le-leb _ _ (all h.0 none h.1))),
)
