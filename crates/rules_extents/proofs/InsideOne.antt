-- A range lies in one of many that share no address just where it lies in the last of those that begin at its address or
-- before it.
use Rattle.std.proofs.Common.{◌≡◌, ℕ, suc, ◌+◌, ◌-◌, ◌<◌, ◌≤◌, inl, inr, Bool, true, false, cond, not, List, [], ◌∷◌, length, get_or, drop, drop-cons, add-one, map, refl, sym, ap, subst, ◌∙◌, arith}
use Rattle.std.specs.Prelude.{◌||◌, nat_le}
use Rattle.std.specs.List.{AllAdjacentBelow, AllWithin, list_any, position_or_len}
use Rattle.std.specs.List.Sorted.{IsPartitionedBy, IsPermutation, IsNonDecreasingBy}
use Rattle.std.proofs.Math.ListN.{drop_of_length-le}
use Rattle.std.proofs.lemmas.Bool.{and_from, and_parts, cases_order, false≢true, le-leb, leb-true}
use Rattle.std.proofs.lemmas.List.Folds.{list_any_at}
use Rattle.std.proofs.lemmas.Bool.Decides.{nat_tests}
use Rattle.std.proofs.lemmas.List.Sorted.{list_any-IsPermutation}
use Rattle.muen_num.proofs.Lists.{list_any-map}
use Rattle.policy_lawful.specs.declared.offence.Extent.{Extent}
use Rattle.rules_extents.specs.Inside.{holds, is_inside}
use Rattle.rules_extents.specs.AddressRange.{address_range_of, IsBelow}
use Rattle.rules_extents.specs.declared.overlap.AddressRange.{AddressRange}

-- ---- a test that one element passes where any does

none_pass : {X : Type 0} (p : X → Bool) (xs : List X) (d : X) → ((k : ℕ) → k < length xs → p (get_or xs k d) ≡ false) → list_any p xs ≡ false
none_pass p [] d h = refl
none_pass p (x ∷ xs) d h = ap (λ b. b || list_any p xs) (h 0 (omega arith)) ∙ none_pass p xs d (λ k l. h (suc k) (omega arith))

fails : (a b : Bool) → (a ≡ true → b ≡ true) → b ≡ false → a ≡ false
fails true b h none = absurd (false≢true (sym none ∙ h refl))
fails false b h none = refl

one_passes : {X : Type 0} (p : X → Bool) (xs : List X) (n : ℕ) (d : X) → n < length xs → ((k : ℕ) → k < length xs → p (get_or xs k d) ≡ true → p (get_or xs n d) ≡ true) → p (get_or xs n d) ≡ list_any p xs
one_passes p xs n d l h =
    (elim (p (get_or xs n d)) as (λ b. p (get_or xs n d) ≡ b → b ≡ list_any p xs) [
      | true ↦ λ is. sym (list_any_at p xs n d l is)
      | false ↦ λ is. sym (none_pass p xs d (λ k here. fails (p (get_or xs k d)) (p (get_or xs n d)) (h k here) is))
    ]) refl

-- ---- ranges in the order of their addresses

begins_later : (e : Extent) (s : AddressRange) → e.address < s.address → holds e s ≡ false
begins_later e s h = grind (arith, nat_tests)

-- a range holds another
record Holding (e : Extent) (s : AddressRange) : Type 0 where
  begins : s.address ≤ e.address
  ends : e.address + e.size ≤ s.address + s.size

holding : (e : Extent) (s : AddressRange) → holds e s ≡ true → Holding e s
holding e s h =
    let both = and_parts (nat_le s.address e.address) (nat_le (e.address + e.size) (s.address + s.size)) h in
    record { begins = leb-true _ _ both.0; ends = leb-true _ _ both.1 }

held : (e : Extent) (s : AddressRange) → s.address ≤ e.address → e.address + e.size ≤ s.address + s.size → holds e s ≡ true
held e s begins ends = and_from (nat_le s.address e.address) (nat_le (e.address + e.size) (s.address + s.size)) (le-leb _ _ begins) (le-leb _ _ ends)

module _ (ranges : List AddressRange) (e : Extent) (up : IsNonDecreasingBy (λ s. s.address) ranges) (below : AllAdjacentBelow IsBelow ranges (length ranges)) (count : ℕ) (bound : count ≤ length ranges) (before : AllWithin (λ s. s.address ≤ e.address) ranges 0 count) (behind : AllWithin (λ s. e.address < s.address) ranges count (length ranges)) where
  pub in_none : count ≡ 0 → false ≡ list_any (holds e) ranges
  in_none none =
      let d : AddressRange = record { address = 0; size = 0 } in
      sym (none_pass (holds e) ranges d (λ k l. begins_later e (get_or ranges k d) (behind k d (omega (arith, none)) l)))

  -- what one in front of the last of them holds, the last one holds: it is empty, and where that one begins
  also_in_last : (k : ℕ) (d : AddressRange) → k < length ranges → 0 < count → holds e (get_or ranges k d) ≡ true → holds e (get_or ranges (count - 1) d) ≡ true
  also_in_last k d l there is =
      elim (cases_order k (count - 1)) [
        | inl same ↦ subst (λ j. holds e (get_or ranges j d) ≡ true) same is
        | inr apart ↦ elim apart [
          | inl less ↦
              let here = below k d (omega (arith, less, bound)) in
              let on = up (k + 1) (count - 1) d (omega (arith, less)) (omega (arith, bound, there)) in
              let at = before (count - 1) d (omega arith) (omega (arith, there)) in
              let inside = holding e (get_or ranges k d) is in
              held e (get_or ranges (count - 1) d) at (omega (arith, here, on, at, inside))
          | inr more ↦ absurd (false≢true (sym (begins_later e (get_or ranges k d) (behind k d (omega (arith, more, there)) l)) ∙ is))
        ]
      ]

  pub in_last : (d : AddressRange) → 0 < count → holds e (get_or ranges (count - 1) d) ≡ list_any (holds e) ranges
  in_last d there = one_passes (holds e) ranges (count - 1) d (omega (arith, bound, there)) (λ k l is. also_in_last k d l there is)

-- a test of addresses divides them
pub divided : (ranges : List AddressRange) (address : ℕ) → IsNonDecreasingBy (λ s. s.address) ranges → IsPartitionedBy (λ s. nat_le s.address address) ranges
divided ranges address up i j d l m h =
    let on = up i j d l m in
    let at : (get_or ranges j d).address ≤ address = leb-true _ _ h in
    le-leb _ _ (omega (arith, on, at))

pub above : (a b : ℕ) → nat_le a b ≡ false → b < a
above a b h = grind (arith, nat_tests)

-- ---- one range after another

-- the index of the first that fails, with so many passed
pub record Counting {X : Type 0} (p : X → Bool) (xs : List X) (i : ℕ) : Type 0 where
  pub so : i + position_or_len (λ x. not (p x)) (drop i xs) ≡ position_or_len (λ x. not (p x)) xs

pub counting_first : {X : Type 0} (p : X → Bool) (xs : List X) → Counting p xs 0
counting_first p xs = record { so = omega arith }

step : {X : Type 0} (p : X → Bool) (xs : List X) (i : ℕ) (x : X) → i < length xs → x ≡ get_or xs i x → position_or_len (λ x. not (p x)) (drop i xs) ≡ cond (not (not (p x))) (1 + position_or_len (λ x. not (p x)) (drop (i + 1) xs)) 0
step p xs i x within is =
    ap (position_or_len (λ x. not (p x))) (drop-cons xs i x within)
    ∙ ap (λ z. cond (not (not (p z))) (1 + position_or_len (λ x. not (p x)) (drop (suc i) xs)) 0) (sym is)
    ∙ ap (λ n. cond (not (not (p x))) (1 + position_or_len (λ x. not (p x)) (drop n xs)) 0) (sym (add-one i))

pub counting_on : {X : Type 0} (p : X → Bool) (xs : List X) (i : ℕ) (x : X) → Counting p xs i → i < length xs → x ≡ get_or xs i x → p x ≡ true → Counting p xs (i + 1)
counting_on p xs i x c within is passes =
    let here = step p xs i x within is ∙ ap (λ b. cond (not (not b)) (1 + position_or_len (λ x. not (p x)) (drop (i + 1) xs)) 0) passes in
    record { so = omega (arith, here, c.so) }

pub counted_here : {X : Type 0} (p : X → Bool) (xs : List X) (i : ℕ) (x : X) → Counting p xs i → i < length xs → x ≡ get_or xs i x → p x ≡ false → i ≡ position_or_len (λ x. not (p x)) xs
counted_here p xs i x c within is fails =
    let here = step p xs i x within is ∙ ap (λ b. cond (not (not b)) (1 + position_or_len (λ x. not (p x)) (drop (i + 1) xs)) 0) fails in
    omega (arith, here, c.so)

pub counted_all : {X : Type 0} (p : X → Bool) (xs : List X) (i : ℕ) → Counting p xs i → i ≡ length xs → length xs ≡ position_or_len (λ x. not (p x)) xs
counted_all p xs i c end =
    let rest : position_or_len (λ x. not (p x)) (drop i xs) ≡ 0 = ap (position_or_len (λ x. not (p x))) (drop_of_length-le xs (omega (arith, end))) in
    omega (arith, rest, c.so, end)

-- ---- the blocks

same_inside : (blocks : List Extent) (ranges : List AddressRange) (e : Extent) → IsPermutation (map address_range_of blocks) ranges → list_any (holds e) ranges ≡ is_inside blocks e
same_inside blocks ranges e moved = sym (list_any-IsPermutation (holds e) (map address_range_of blocks) ranges moved) ∙ list_any-map (holds e) address_range_of blocks

pub counted : (blocks : List Extent) (ranges : List AddressRange) (extents : List Extent) → IsPermutation (map address_range_of blocks) ranges → position_or_len (λ e. not (list_any (holds e) ranges)) extents ≡ position_or_len (λ e. not (is_inside blocks e)) extents
counted blocks ranges [] moved = refl
counted blocks ranges (e ∷ es) moved =
    λ i. cond (not (not (same_inside blocks ranges e moved i))) (1 + counted blocks ranges es moved i) 0
