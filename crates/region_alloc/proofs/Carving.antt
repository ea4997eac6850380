-- What lies in gaps: at first what lies in a block, and then what shares no address with a region that is placed.
use Rattle.std.proofs.Common.{◌≡◌, ℕ, ◌+◌, ◌<◌, inl, inr, Bool, true, false, cond, List, [], ◌∷◌, ◌++◌, map, min, max, refl, sym, ap, ◌∙◌, arith}
use Rattle.std.specs.Prelude.{◌&&◌, ◌||◌, nat_le}
use Rattle.std.specs.List.{flat_map, list_any}
use Rattle.std.proofs.lemmas.Bool.{and_left, and_right, cases_lt, le-ltb, lt-leb, lt-ltb}
use Rattle.std.proofs.lemmas.Bool.Decides.{nat_tests}
use Rattle.std.proofs.lemmas.List.Folds.{list_all-append, list_any-append}
use Rattle.std.proofs.Math.Bool.{or-false, and-true, and_assoc}
use Rattle.muen_num.proofs.Lists.{list_any-map}
use Rattle.policy_lawful.specs.source.Block.{Block}
use Rattle.expand_kernel.specs.thing.Region.{Region}
use Rattle.region_alloc.specs.Gaps.{gap_of, has_room, holds, remaining_of, some_gap}
use Rattle.region_alloc.specs.Placement.{is_apart, is_room, suits}
use Rattle.region_alloc.specs.declared.gaps.Gap.{Gap}
use Rattle.region_alloc.specs.declared.spot.Spot.{Spot}
use Rattle.policy_lawful.specs.Ranges.{in_a_block}

-- some gap holds so many bytes from the address on
abbrev pub is_free : List Gap → ℕ → ℕ → Bool
is_free gaps address size = list_any (λ g. holds g address size) gaps

-- they share none with one region that is placed
abbrev pub is_clear : Spot → ℕ → ℕ → Bool
is_clear q address size = nat_le (address + size) q.address || nat_le (q.address + q.size) address

-- ---- tests

-- within the left or within the right
either_side : (a b c d : Bool) → ((a && (b && c)) || ((a && d) && b)) ≡ ((a && b) && (c || d))
either_side true true true d = refl
either_side true true false d = and-true d
either_side true false c true = refl
either_side true false c false = refl
either_side false b c d = refl

or_under : (a b c : Bool) → ((a && c) || (b && c)) ≡ ((a || b) && c)
or_under true true true = refl
or_under true true false = refl
or_under true false c = or-false c
or_under false b c = refl

le_min : (n a b : ℕ) → nat_le n (min a b) ≡ (nat_le n a && nat_le n b)
le_min n a b = grind (arith, nat_tests)

max_le : (n a b : ℕ) → nat_le (max a b) n ≡ (nat_le a n && nat_le b n)
max_le n a b = grind (arith, nat_tests)

-- ---- what one region leaves

holds_some : (start end address size : ℕ) → 0 < size → is_free (some_gap start end) address size ≡ (nat_le start address && nat_le (address + size) end)
holds_some start end address size some = elim (cases_lt start end) [
  | inl less ↦
      ap (λ b. is_free (cond b (record { start = start; end = end } ∷ []) []) address size) (lt-ltb _ _ less)
      ∙ or-false (nat_le start address && nat_le (address + size) end)
  | inr more ↦
      ap (λ b. is_free (cond b (record { start = start; end = end } ∷ []) []) address size) (le-ltb _ _ more)
      ∙ sym (elim (cases_lt address start) [
        | inl below ↦ and_left (nat_le start address) (nat_le (address + size) end) (lt-leb _ _ below)
        | inr above ↦ and_right (nat_le start address) (nat_le (address + size) end) (lt-leb _ _ (omega arith))
      ])
]

free_beside : (q : Spot) (g : Gap) (address size : ℕ) → 0 < size → is_free (remaining_of q g) address size ≡ (holds g address size && is_clear q address size)
free_beside q g address size some =
    let end = address + size in
    list_any-append (λ h. holds h address size) (some_gap g.start (min g.end q.address)) (some_gap (max g.start (q.address + q.size)) g.end)
    ∙ ap (λ b. b || is_free (some_gap (max g.start (q.address + q.size)) g.end) address size) (holds_some g.start (min g.end q.address) address size some)
    ∙ ap (λ b. (nat_le g.start address && nat_le end (min g.end q.address)) || b) (holds_some (max g.start (q.address + q.size)) g.end address size some)
    ∙ ap (λ b. (nat_le g.start address && b) || (nat_le (max g.start (q.address + q.size)) address && nat_le end g.end)) (le_min end g.end q.address)
    ∙ ap (λ b. (nat_le g.start address && (nat_le end g.end && nat_le end q.address)) || (b && nat_le end g.end)) (max_le address g.start (q.address + q.size))
    ∙ either_side (nat_le g.start address) (nat_le end g.end) (nat_le end q.address) (nat_le (q.address + q.size) address)

pub free_remaining : (q : Spot) (gaps : List Gap) (address size : ℕ) → 0 < size → is_free (flat_map (remaining_of q) gaps) address size ≡ (is_free gaps address size && is_clear q address size)
free_remaining q [] address size some = refl
free_remaining q (g ∷ gaps) address size some =
    list_any-append (λ h. holds h address size) (remaining_of q g) (flat_map (remaining_of q) gaps)
    ∙ ap (λ b. b || is_free (flat_map (remaining_of q) gaps) address size) (free_beside q g address size some)
    ∙ ap (λ b. (holds g address size && is_clear q address size) || b) (free_remaining q gaps address size some)
    ∙ or_under (holds g address size) (is_free gaps address size) (is_clear q address size)

-- ---- what lies in gaps, in a block, and beside what is placed

-- the gaps are what the regions leave of the blocks
pub record AreRemaining (blocks : List Block) (spots : List Spot) (gaps : List Gap) : Type 0 where
  pub so : (address size : ℕ) → 0 < size → is_free gaps address size ≡ (in_a_block blocks address size && is_apart spots address size)

pub remaining_at_first : (blocks : List Block) → AreRemaining blocks [] (map gap_of blocks)
remaining_at_first blocks = record {
  so = λ address size some. list_any-map (λ g. holds g address size) gap_of blocks ∙ sym (and-true (in_a_block blocks address size));
}

pub remaining_then : (blocks : List Block) (spots : List Spot) (gaps : List Gap) (q : Spot) → AreRemaining blocks spots gaps → AreRemaining blocks (spots ++ q ∷ []) (flat_map (remaining_of q) gaps)
remaining_then blocks spots gaps q h = record {
  so = λ address size some.
      free_remaining q gaps address size some
      ∙ ap (λ b. b && is_clear q address size) (h.so address size some)
      ∙ and_assoc (in_a_block blocks address size) (is_apart spots address size) (is_clear q address size)
      ∙ ap (λ b. in_a_block blocks address size && (is_apart spots address size && b)) (sym (and-true (is_clear q address size)))
      ∙ ap (λ b. in_a_block blocks address size && b) (sym (list_all-append (λ q. is_clear q address size) spots (q ∷ [])));
}

pub room_is : (blocks : List Block) (spots : List Spot) (gaps : List Gap) (r : Region) → AreRemaining blocks spots gaps → 0 < r.size → (address : ℕ) → has_room gaps r address ≡ is_room blocks spots r address
unfolding is_room
room_is blocks spots gaps r h some address =
    ap (λ b. suits r r.fixed address && b) (h.so address r.size some)
    ∙ sym (and_assoc (suits r r.fixed address) (in_a_block blocks address r.size) (is_apart spots address r.size))
