-- Regions that are placed one after another.
use Rattle.std.proofs.Common.{◌≡◌, ℕ, suc, ◌+◌, ◌<◌, ◌≤◌, All, List, [], ◌∷◌, ◌++◌, length, get_or, drop, map, add-one, drop-cons, Option, Some, None, refl, sym, ap, subst, ◌∙◌}
use Rattle.std.specs.Prelude.{Ok, Err}
use Rattle.std.specs.List.{flat_map}
use Rattle.std.proofs.lemmas.List.{drop_all}
use Rattle.expand_kernel.specs.thing.Region.{Region}
use Rattle.muen_num.specs.declared.limits.TheConstants.{PHYSICAL_END}
use Rattle.policy_lawful.specs.source.Block.{Block}
use Rattle.region_alloc.specs.Gaps.{IsLeast, gap_of, has_room, remaining_of}
use Rattle.region_alloc.specs.Placement.{if_placed, lowest, placed_after, spot}
use Rattle.region_alloc.specs.declared.gaps.Gap.{Gap}
use Rattle.region_alloc.specs.declared.spot.Spot.{Spot}
use Rattle.region_alloc.proofs.Carving.{AreRemaining, remaining_at_first, remaining_then}
use Rattle.region_alloc.proofs.Lowest.{ends_well, lowest_end, lowest_is}

-- the first i regions are at these addresses, and leave these gaps
pub record Placing (blocks : List Block) (turns : List (ℕ × Region)) (i : ℕ) (gaps : List Gap) (spots : List Spot) : Type 0 where
  pub remaining : AreRemaining blocks spots gaps
  pub rest : placed_after blocks (drop i turns) spots ≡ placed_after blocks turns []

pub placing_first : (blocks : List Block) (turns : List (ℕ × Region)) → Placing blocks turns 0 (map gap_of blocks) []
placing_first blocks turns = record { remaining = remaining_at_first blocks; rest = refl }

-- what follows from the address of the next
next : (blocks : List Block) (turns : List (ℕ × Region)) (i : ℕ) (x : ℕ × Region) (spots : List Spot) (o : Option ℕ) → i < length turns → x ≡ get_or turns i x → lowest blocks spots x.1 ≡ o
    → placed_after blocks (drop i turns) spots ≡ if_placed x.1 o (λ address. placed_after blocks (drop (i + 1) turns) (spots ++ spot x.0 x.1 address ∷ []))
unfolding placed_after
next blocks turns i x spots o l is e =
    ap (λ xs. placed_after blocks xs spots) (drop-cons turns i x l)
    ∙ ap (λ y. placed_after blocks (y ∷ drop (suc i) turns) spots) (sym is)
    ∙ ap (λ p. if_placed x.1 p (λ address. placed_after blocks (drop (suc i) turns) (spots ++ spot x.0 x.1 address ∷ []))) e
    ∙ ap (λ n. if_placed x.1 o (λ address. placed_after blocks (drop n turns) (spots ++ spot x.0 x.1 address ∷ []))) (sym (add-one i))

module _ (blocks : List Block) (turns : List (ℕ × Region)) (i : ℕ) (gaps : List Gap) (spots : List Spot) (ends : All ends_well blocks) (h : Placing blocks turns i gaps spots) (x : ℕ × Region) (l : i < length turns) (is : x ≡ get_or turns i x) (some : 0 < x.1.size) where
  pub placing_next : (address : ℕ) → IsLeast (has_room gaps x.1) (Some address) → Placing blocks turns (i + 1) (flat_map (remaining_of (spot x.0 x.1 address)) gaps) (spots ++ spot x.0 x.1 address ∷ [])
  placing_next address k = record {
    remaining = remaining_then blocks spots gaps (spot x.0 x.1 address) h.remaining;
    rest = sym (next blocks turns i x spots (Some address) l is (lowest_is blocks spots gaps x.1 ends h.remaining some (Some address) k)) ∙ h.rest;
  }

  pub address_end : (address : ℕ) → IsLeast (has_room gaps x.1) (Some address) → address + x.1.size ≤ PHYSICAL_END
  address_end address k = lowest_end blocks spots gaps x.1 ends h.remaining some address k

  pub no_address : IsLeast (has_room gaps x.1) None → placed_after blocks turns [] ≡ Err x.1
  no_address k = sym h.rest ∙ next blocks turns i x spots None l is (lowest_is blocks spots gaps x.1 ends h.remaining some None k)

-- each region has bytes and an alignment
abbrev pub IsSized : Region → Type 0
IsSized r = (0 < r.size) × (0 < r.alignment)

pub sized_at : (turns : List (ℕ × Region)) (i : ℕ) (x : ℕ × Region) → All (λ y. IsSized y.1) turns → i < length turns → x ≡ get_or turns i x → IsSized x.1
sized_at turns i x h l is = subst (λ y. IsSized y.1) (sym is) (h i x l)

pub placed_all : (blocks : List Block) (turns : List (ℕ × Region)) (i : ℕ) (gaps : List Gap) (spots : List Spot) → length turns ≤ i → Placing blocks turns i gaps spots → placed_after blocks turns [] ≡ Ok spots
unfolding placed_after
placed_all blocks turns i gaps spots l h = sym h.rest ∙ ap (λ xs. placed_after blocks xs spots) (drop_all i turns l)
