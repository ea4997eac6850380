-- A placement keeps each region where it may be, inside one block, and no two share an address.
use Rattle.std.proofs.Common.{◌≡◌, ℕ, zero, suc, ◌+◌, ◌<◌, ◌≤◌, ◌⊎◌, inl, inr, true, List, [], ◌∷◌, length, get_or, map, Some, refl, sym, ap, subst, ◌∙◌, arith}
use Rattle.std.specs.Prelude.{Result, Ok, Err, slice_get}
use Rattle.std.specs.List.{AllZip, find, list_any}
use Rattle.std.specs.Option.{option_map_or}
use Rattle.std.proofs.lemmas.Bool.{eqb-true}
use Rattle.std.proofs.lemmas.List.{length-map}
use Rattle.std.proofs.lemmas.List.Elements.{All-nil}
use Rattle.expand_kernel.specs.Expansion.{Expansion, IsExpanded}
use Rattle.expand_kernel.specs.Regions.{regions_of}
use Rattle.expand_kernel.specs.thing.Region.{Region}
use Rattle.muen_num.proofs.Lists.{found, each_numbered}
use Rattle.muen_num.proofs.NumbersBelow.{length_numbers, mapped_at}
use Rattle.muen_num.specs.Range.{numbers_below}
use Rattle.policy_lawful.specs.Ranges.{in_a_block}
use Rattle.policy_lawful.specs.Resolution.{Resolution, source_of}
use Rattle.policy_lawful.specs.source.Block.{Block}
use Rattle.region_alloc.specs.Placed.{AreDisjoint, AreInside, IsPlaced, Placement}
use Rattle.region_alloc.specs.Placement.{address_in, addresses_by_number, in_turn, placed_after, placement_in, placement_of}
use Rattle.region_alloc.specs.declared.spot.Spot.{Spot}
use Rattle.region_alloc.proofs.EachInTurn.{each_from_turns, each_in_turn, numbered_at}
use Rattle.region_alloc.proofs.Sized.{placement_is}
use Rattle.region_alloc.proofs.Spots.{AreWell, HoldsOf, MayBe, all_found, each_after, is_of, two_found, well_after}

-- ---- lists by number

numbers_length : (f : ℕ → ℕ) (n : ℕ) → length (map f (numbers_below n)) ≡ n
numbers_length f n = length-map (numbers_below n) f ∙ length_numbers n

is_there : {X : Type 0} (xs : List X) (i : ℕ) (x : X) → slice_get xs i ≡ Some x → i < length xs
is_there [] i x e = absurd (cc)
is_there (y ∷ ys) zero x e = omega arith
is_there (y ∷ ys) (suc i) x e = let l = is_there ys i x e in omega arith

all_zip : {X : Type 0} (R : X → ℕ → Type 0) (xs : List X) (ys : List ℕ) → length ys ≡ length xs → ((i : ℕ) (x : X) (d : ℕ) → slice_get xs i ≡ Some x → R x (get_or ys i d)) → AllZip R xs ys
all_zip R [] [] l h = tt
all_zip R [] (y ∷ ys) l h = absurd (omega arith)
all_zip R (x ∷ xs) [] l h = absurd (omega arith)
all_zip R (x ∷ xs) (y ∷ ys) l h = (h 0 x y refl, all_zip R xs ys (omega arith) (λ i z d e. h (suc i) z d e))

-- ---- where each region is

-- there is a region of this number and size, which may be there
abbrev Holds : List Block → List Region → Spot → Type 0
Holds blocks regions q = (r : Region) × (slice_get regions q.number ≡ Some r) × (q.size ≡ r.size) × MayBe blocks r q.address

-- its spot is the one that is found, has its size, and is where it may be
record IsAt (blocks : List Block) (out : List Spot) (number : ℕ) (r : Region) : Type 0 where
  spot : Spot
  is : find (is_of number) out ≡ Some spot
  address : address_in out number ≡ spot.address
  size : spot.size ≡ r.size
  there : MayBe blocks r (address_in out number)

made : (many : ℕ) (placed : Result (List Spot) Region) (addresses : List ℕ) → addresses_by_number many placed ≡ Ok addresses → (out : List Spot) × (placed ≡ Ok out) × (addresses ≡ map (address_in out) (numbers_below many))
made many (Ok out) addresses e = (out, refl, cc)
made many (Err r) addresses e = absurd (cc)

module _ (blocks : List Block) (regions : List Region) (out : List Spot) (placed : placed_after blocks (in_turn regions) [] ≡ Ok out) where
  well : AreWell (Holds blocks regions) out
  well =
      well_after blocks (Holds blocks regions) (in_turn regions) [] out placed
      (each_in_turn (HoldsOf blocks (Holds blocks regions)) regions
      (each_numbered (HoldsOf blocks (Holds blocks regions)) 0 regions (λ i r e a there. let n : 0 + i ≡ i = omega arith in (r, ap (slice_get regions) n ∙ e, refl, there))))
      (record { apart = tt; each = All-nil (Holds blocks regions) })

  is_at : (i : ℕ) (r : Region) → slice_get regions i ≡ Some r → IsAt blocks out i r
  is_at i r e =
      let n : 0 + i ≡ i = omega arith in
      let some : list_any (is_of i) out ≡ true =
      subst (λ k. list_any (is_of k) out ≡ true) n
      (numbered_at (λ x. list_any (is_of x.0) out ≡ true) 0 regions
      (each_from_turns (λ x. list_any (is_of x.0) out ≡ true) regions (each_after blocks (Holds blocks regions) (in_turn regions) [] out placed)) i r e) in
      let f = found (is_of i) out some in
      let number : f.item.number ≡ i = eqb-true f.item.number i f.passes in
      let h = all_found (is_of i) (Holds blocks regions) out f.item f.is well.each in
      let same : Some h.0 ≡ Some r = sym h.1 ∙ ap (slice_get regions) number ∙ e in
      let is : h.0 ≡ r = cc in
      let at : address_in out i ≡ f.item.address = ap (λ o. option_map_or (λ q. q.address) o 0) f.is in
      record {
        spot = f.item;
        is = f.is;
        address = at;
        size = h.2 ∙ ap (λ r. r.size) is;
        there = subst (λ x. MayBe blocks x (address_in out i)) is (subst (MayBe blocks h.0) (sym at) h.3);
      }

  apart_at : (i j : ℕ) (a b : Region) → i < j → slice_get regions i ≡ Some a → slice_get regions j ≡ Some b → (address_in out i + a.size ≤ address_in out j) ⊎ (address_in out j + b.size ≤ address_in out i)
  apart_at i j a b l d e =
      let p = is_at i a d in
      let q = is_at j b e in
      let other : (x : Spot) → is_of i x ≡ true → is_of j x ≡ true → ⊥ =
      λ x h k. let m = eqb-true x.number i h in let n = eqb-true x.number j k in absurd (omega arith) in
      let pa = p.address in
      let qa = q.address in
      let ps = p.size in
      let qs = q.size in
      elim (two_found (is_of i) (is_of j) out p.spot q.spot other p.is q.is well.apart) [
        | inl before ↦ inl (omega arith)
        | inr behind ↦ inr (omega arith)
      ]

module _ (blocks : List Block) (regions : List Region) (addresses : List ℕ) (e : placement_in blocks regions ≡ Ok addresses) where
  parts : (out : List Spot) × (placed_after blocks (in_turn regions) [] ≡ Ok out) × (addresses ≡ map (address_in out) (numbers_below (length regions)))
  unfolding placement_in
  parts = made (length regions) (placed_after blocks (in_turn regions) []) addresses e

  value_at : (i d : ℕ) → i < length regions → get_or addresses i d ≡ address_in parts.0 i
  value_at i d l = ap (λ xs. get_or xs i d) parts.2 ∙ mapped_at (address_in parts.0) (length regions) i d l

  many : length addresses ≡ length regions
  many = ap length parts.2 ∙ numbers_length (address_in parts.0) (length regions)

  there_at : (i d : ℕ) (r : Region) → slice_get regions i ≡ Some r → MayBe blocks r (get_or addresses i d)
  there_at i d r k = subst (MayBe blocks r) (sym (value_at i d (is_there regions i r k))) (is_at blocks regions parts.0 parts.1 i r k).there

  -- what holds of a region wherever it may be holds of each at its address
  pub are_each : (R : Region → ℕ → Type 0) → ((r : Region) (a : ℕ) → MayBe blocks r a → R r a) → AllZip R regions addresses
  are_each R so = all_zip R regions addresses many (λ i r d k. so r (get_or addresses i d) (there_at i d r k))

  pub are_disjoint : AreDisjoint regions addresses
  are_disjoint i j a b l within h k =
      let p = value_at i 0 (is_there regions i a h) in
      let q = value_at j 0 (is_there regions j b k) in
      elim (apart_at blocks regions parts.0 parts.1 i j a b l h k) [
        | inl before ↦ inl (omega arith)
        | inr behind ↦ inr (omega arith)
      ]

-- ---- of a policy

module _ (r : Resolution) (regions : List Region) (addresses : List ℕ) (all : regions ≡ regions_of (source_of r)) (e : placement_of (source_of r) ≡ Ok addresses) where
  placement : placement_in r.memory_blocks regions ≡ Ok addresses
  placement = ap (placement_in r.memory_blocks) all ∙ sym (placement_is r) ∙ e

  pub policy_each : (R : Region → ℕ → Type 0) → ((x : Region) (a : ℕ) → MayBe r.memory_blocks x a → R x a) → AllZip R regions addresses
  policy_each = are_each r.memory_blocks regions addresses placement

  pub policy_inside : AreInside r.memory_blocks regions addresses
  policy_inside = policy_each (λ x address. in_a_block r.memory_blocks address x.size ≡ true) (λ x a there. there.1)

  pub policy_disjoint : AreDisjoint regions addresses
  policy_disjoint = are_disjoint r.memory_blocks regions addresses placement

-- a policy that is expanded, at its addresses
pub placed_so : (x : Expansion) (addresses : List ℕ) → IsExpanded x → placement_of (source_of x.lawful) ≡ Ok addresses → IsPlaced (record { expanded = x; addresses = addresses })
placed_so x addresses h e = record {
  resolved = h.resolved;
  lawful = h.lawful;
  expansion = h.expansion;
  placement = e;
  inside = policy_inside x.lawful x.regions addresses h.expansion.regions e;
  disjoint = policy_disjoint x.lawful x.regions addresses h.expansion.regions e;
}

-- each region of a placed policy may be at its address
pub placed_there : (x : Placement) → IsPlaced x → (i : ℕ) (r : Region) → slice_get x.expanded.regions i ≡ Some r → MayBe x.expanded.lawful.memory_blocks r (get_or x.addresses i 0)
placed_there x placed i r at =
    there_at x.expanded.lawful.memory_blocks x.expanded.regions x.addresses (placement x.expanded.lawful x.expanded.regions x.addresses placed.expansion.regions placed.placement) i 0 r at
