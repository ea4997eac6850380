-- Regions of at most eight pages each, of which there are not too many, are placed in a block of 4 MiB.
use Rattle.std.proofs.Common.{◌≡◌, ℕ, zero, suc, ◌+◌, ◌*◌, ◌%◌, ◌<◌, ◌≤◌, inl, inr, All, Bool, true, false, List, [], ◌∷◌, ◌++◌, length, map, Option, Some, None, Ok, refl, ap, ◌∙◌, arith, length-append}
use Rattle.std.specs.Prelude.{◌&&◌, ◌==◌, filter, nat_le, not, if◌then◌else◌}
use Rattle.std.specs.List.{enumerate_from}
use Rattle.std.specs.Option.{option_or}
use Rattle.std.proofs.lemmas.Bool.{and_from, cases_lt}
use Rattle.std.proofs.lemmas.Bool.Decides.{nat_tests}
use Rattle.std.proofs.lemmas.List.Elements.{All-head, All-tail}
use Rattle.std.proofs.lemmas.List.Filters.{length-filter_both}
use Rattle.std.proofs.lemmas.List.Folds.{list_all-append}
use Rattle.std.proofs.lemmas.List.FromFn.{length-enumerate_from}
use Rattle.region_alloc.specs.Ordered.{in_order, inserted}
use Rattle.region_alloc.specs.thing.Region.{Region}
use Rattle.muen_num.specs.Range.{numbers_below}
use Rattle.muen_num.specs.declared.limits.TheConstants.{PHYSICAL_END}
use Rattle.policy_lawful.specs.Ranges.{share_none}
use Rattle.policy_lawful.specs.source.Block.{Block}
use Rattle.region_alloc.specs.Placement.{address_in, addresses_by_number, if_placed, in_turn, is_apart, has_fixed_address, is_room, least_below, lowest, placed_after, placement_in, spot}
use Rattle.region_alloc.proofs.EachInTurn.{regions_in_turn}

-- ---- the least number that passes is at most one that does

abbrev or_else : (ℕ → Bool) → ℕ → Option ℕ → Option ℕ
or_else p n o = option_or o (if p n then Some n else None)

below_or : (p : ℕ → Bool) (n a : ℕ) (o : Option ℕ) → ((b : ℕ) → o ≡ Some b → b < n) → or_else p n o ≡ Some a → a < suc n
below_or p n a (Some b) before e = let same : b ≡ a = cc in let less = before b refl in omega arith
below_or p n a None before e =
    elim (p n) as (λ t. (if t then Some n else None) ≡ Some a → a < suc n) [
      | true ↦ λ h. let same : n ≡ a = cc in omega arith
      | false ↦ λ h. absurd (cc)
    ] e

below : (p : ℕ → Bool) (n a : ℕ) → least_below p n ≡ Some a → a < n
unfolding least_below
below p zero a e = absurd (cc)
below p (suc n) a e = below_or p n a (least_below p n) (λ b h. below p n b h) e

-- there is a least, at most this one
record Found (o : Option ℕ) (most : ℕ) : Type 0 where
  least : ℕ
  is : o ≡ Some least
  le : least ≤ most

found_last : (p : ℕ → Bool) (n : ℕ) (o : Option ℕ) → p n ≡ true → ((b : ℕ) → o ≡ Some b → b < n) → Found (or_else p n o) n
found_last p n (Some b) h before = let less = before b refl in record { least = b; is = refl; le = omega arith }
found_last p n None h before = record { least = n; is = ap (λ t. if t then Some n else None) h; le = omega arith }

found : (p : ℕ → Bool) (t : ℕ) → p t ≡ true → (n : ℕ) → t < n → Found (least_below p n) t
unfolding least_below
found p t h zero l = absurd (omega arith)
found p t h (suc n) l =
    elim (cases_lt t n) [
      | inl less ↦ let f = found p t h n less in record { least = f.least; is = ap (or_else p n) f.is; le = f.le }
      | inr more ↦
          let last : n ≡ t = omega arith in
          let f = found_last p n (least_below p n) (ap p last ∙ h) (λ b e. below p n b e) in
          record { least = f.least; is = f.is; le = let le = f.le in omega arith }
    ]

-- ---- one region more

-- at any page, and of at most eight
pub record IsSmall (r : Region) : Type 0 where
  pub anywhere : r.fixed ≡ None
  pub alignment : r.alignment ≡ 4096
  pub size : r.size ≤ 32768

abbrev pub IsBlock : Block → Type 0
IsBlock b = (b.physical_address ≡ 16777216) × (b.size ≡ 4194304)

-- what ends here, with so many regions of eight pages
abbrev end_of : ℕ → ℕ
end_of many = 16777216 + 32768 * many

free : (b : Block) (spots : _) (r : Region) (many : ℕ) → IsBlock b → IsSmall r → many < 128 → ((a z : ℕ) → end_of many ≤ a → is_apart spots a z ≡ true) → is_room (b ∷ []) spots r (end_of many) ≡ true
unfolding is_room
free b spots r many at small few h =
    let fixed = small.anywhere in
    let alignment = small.alignment in
    let size = small.size in
    let aligned : (end_of many % 4096 == 0) ≡ true = grind (arith, nat_tests) in
    let lower : nat_le 16777216 (end_of many) ≡ true = grind (arith, nat_tests) in
    let upper : nat_le (end_of many + r.size) (16777216 + 4194304) ≡ true = grind (arith, nat_tests) in
    rw (fixed, alignment, at.0, at.1, aligned, lower, upper, h (end_of many) r.size (omega arith)) refl

lowest_here : (b : Block) (spots : _) (r : Region) (many : ℕ) → IsBlock b → IsSmall r → many < 128 → ((a z : ℕ) → end_of many ≤ a → is_apart spots a z ≡ true) → Found (lowest (b ∷ []) spots r) (end_of many)
unfolding lowest
lowest_here b spots r many at small few h = found (is_room (b ∷ []) spots r) (end_of many) (free b spots r many at small few h) PHYSICAL_END (omega arith)

-- ---- all regions

beside : (address size end a z : ℕ) → address + size ≤ end → end ≤ a → (share_none a (a + z) address (address + size) && true) ≡ true
beside address size end a z h l = grind (arith, nat_tests)

placed : (b : Block) (turns : List (ℕ × Region)) (spots : _) (many : ℕ) → IsBlock b → All (λ x. IsSmall x.1) turns → many + length turns ≤ 127 → ((a z : ℕ) → end_of many ≤ a → is_apart spots a z ≡ true)
    → (out : _) × (placed_after (b ∷ []) turns spots ≡ Ok out)
unfolding placed_after
placed b [] spots many at small few h = (spots, refl)
placed b (x ∷ turns) spots many at small few h =
    let one = All-head (λ x. IsSmall x.1) x turns small in
    let here = lowest_here b spots x.1 many at one (omega arith) h in
    let size = one.size in
    let le = here.le in
    let clear : (a z : ℕ) → end_of (many + 1) ≤ a → is_apart (spots ++ spot x.0 x.1 here.least ∷ []) a z ≡ true =
    λ a z l.
    list_all-append _ spots (spot x.0 x.1 here.least ∷ [])
    ∙ and_from (is_apart spots a z) _ (h a z (omega arith)) (beside here.least x.1.size (end_of (many + 1)) a z (omega arith) l) in
    let rest = placed b turns (spots ++ spot x.0 x.1 here.least ∷ []) (many + 1) at (All-tail (λ x. IsSmall x.1) x turns small) (omega arith) clear in
    (rest.0, ap (λ o. if_placed x.1 o (λ address. placed_after (b ∷ []) turns (spots ++ spot x.0 x.1 address ∷ []))) here.is ∙ rest.1)

-- ---- in turn

length_inserted : {X : Type 0} (before : X → X → Bool) (x : X) (ys : List X) → length (inserted before x ys) ≡ suc (length ys)
unfolding inserted
length_inserted before x [] = refl
length_inserted before x (y ∷ ys) =
    elim (before x y) as (λ b. length (if b then x ∷ y ∷ ys else y ∷ inserted before x ys) ≡ suc (suc (length ys))) [
      | true ↦ refl
      | false ↦ ap suc (length_inserted before x ys)
    ]

length_in_order : {X : Type 0} (before : X → X → Bool) (xs : List X) → length (in_order before xs) ≡ length xs
unfolding in_order
length_in_order before [] = refl
length_in_order before (x ∷ xs) = length_inserted before x (in_order before xs) ∙ ap suc (length_in_order before xs)

length_in_turn : (regions : List Region) → length (in_turn regions) ≡ length regions
unfolding in_turn
length_in_turn regions =
    let all : List (ℕ × Region) = enumerate_from 0 regions in
    let fixed : List (ℕ × Region) = filter (λ x. has_fixed_address x.1) all in
    let others : List (ℕ × Region) = filter (λ x. not (has_fixed_address x.1)) all in
    let ordered = length_in_order (λ (x y : ℕ × Region). nat_le y.1.size x.1.size) others in
    let both = length-filter_both (λ (x : ℕ × Region). has_fixed_address x.1) (λ x. not (has_fixed_address x.1)) (λ x. refl) all in
    let many = length-enumerate_from 0 regions in
    omega (arith, length-append fixed (in_order (λ (x y : ℕ × Region). nat_le y.1.size x.1.size) others), ordered, both, many)

pub record HasPlaces (b : Block) (regions : List Region) : Type 0 where
  pub addresses : List ℕ
  pub is : placement_in (b ∷ []) regions ≡ Ok addresses

pub small_placed : (b : Block) (regions : List Region) → IsBlock b → All IsSmall regions → length regions ≤ 127 → HasPlaces b regions
unfolding placement_in
small_placed b regions at small few =
    let p = placed b (in_turn regions) [] 0 at (regions_in_turn IsSmall regions small) (omega (arith, length_in_turn regions)) (λ a z l. refl) in
    record { addresses = map (address_in p.0) (numbers_below (length regions)); is = ap (addresses_by_number (length regions)) p.1 }
