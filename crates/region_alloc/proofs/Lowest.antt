-- The lowest address in the gaps is the lowest where a region may be.
use Rattle.std.proofs.Common.{◌≡◌, ℕ, ◌+◌, ◌<◌, ◌≤◌, inl, inr, true, All, List, [], ◌∷◌, Option, Some, arith}
use Rattle.std.specs.Prelude.{◌&&◌, nat_le}
use Rattle.std.proofs.lemmas.Bool.{and_parts, leb-true, or_cases}
use Rattle.std.proofs.lemmas.List.Elements.{All-head, All-tail}
use Rattle.expand_kernel.specs.thing.Region.{Region}
use Rattle.muen_num.specs.declared.limits.TheConstants.{PHYSICAL_END}
use Rattle.policy_lawful.specs.source.Block.{Block}
use Rattle.region_alloc.specs.Gaps.{IsLeast, has_room}
use Rattle.region_alloc.specs.Placement.{is_apart, is_room, lowest, suits}
use Rattle.region_alloc.specs.declared.gaps.Gap.{Gap}
use Rattle.region_alloc.specs.declared.spot.Spot.{Spot}
use Rattle.region_alloc.proofs.Carving.{AreRemaining, room_is}
use Rattle.region_alloc.proofs.Least.{least_is, least_same}
use Rattle.policy_lawful.specs.Ranges.{in_a_block}

abbrev pub ends_well : Block → Type 0
ends_well b = b.physical_address + b.size ≤ PHYSICAL_END

pub block_end : (blocks : List Block) (address size : ℕ) → All ends_well blocks → in_a_block blocks address size ≡ true → address + size ≤ PHYSICAL_END
block_end [] address size h k = absurd (cc)
block_end (b ∷ blocks) address size h k =
    elim (or_cases (nat_le b.physical_address address && nat_le (address + size) (b.physical_address + b.size)) (in_a_block blocks address size) k) [
      | inl here ↦
          let l = leb-true _ _ (and_parts (nat_le b.physical_address address) (nat_le (address + size) (b.physical_address + b.size)) here).1 in
          let e = All-head ends_well b blocks h in
          omega arith
      | inr there ↦ block_end blocks address size (All-tail ends_well b blocks h) there
    ]

room_end : (blocks : List Block) (spots : List Spot) (r : Region) (address : ℕ) → All ends_well blocks → is_room blocks spots r address ≡ true → address + r.size ≤ PHYSICAL_END
unfolding is_room
room_end blocks spots r address h k =
    block_end blocks address r.size h
    (and_parts (suits r r.fixed address) (in_a_block blocks address r.size)
    (and_parts (suits r r.fixed address && in_a_block blocks address r.size) (is_apart spots address r.size) k).0).1

module _ (blocks : List Block) (spots : List Spot) (gaps : List Gap) (r : Region) (ends : All ends_well blocks) (remaining : AreRemaining blocks spots gaps) (some : 0 < r.size) where
  least_room : (o : Option ℕ) → IsLeast (has_room gaps r) o → IsLeast (is_room blocks spots r) o
  least_room o h = least_same (has_room gaps r) (is_room blocks spots r) (room_is blocks spots gaps r remaining some) o h

  pub lowest_is : (o : Option ℕ) → IsLeast (has_room gaps r) o → lowest blocks spots r ≡ o
  unfolding lowest
  lowest_is o h =
      least_is (is_room blocks spots r) PHYSICAL_END o (least_room o h)
      (λ a k. let e = room_end blocks spots r a ends k in omega arith)

  -- where it is placed ends where memory does, or before
  pub lowest_end : (a : ℕ) → IsLeast (has_room gaps r) (Some a) → a + r.size ≤ PHYSICAL_END
  lowest_end a h = room_end blocks spots r a ends (least_room (Some a) h).0
