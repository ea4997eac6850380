-- Rule 19 is the shared search: each fixed region lies in a block, and no two share an address.
use Rattle.std.proofs.Common.{◌≡◌, ℕ, ◌≤◌, Bool, not, List, [], ◌∷◌, length, take, cond, refl, sym, ap, ◌∙◌}
use Rattle.std.specs.Prelude.{◌+◌, option_map, slice_get}
use Rattle.std.specs.Option.{option_or}
use Rattle.std.specs.List.{position_or_len}
use Rattle.std.proofs.lemmas.List.Sums.{prefix_len-le-length}
use Rattle.muen_num.proofs.Lists.{list_any-map}
use Rattle.rules_extents.specs.Inside.{holds}
use Rattle.rules_extents.specs.Inside as inside
use Rattle.rules_extents.specs.AddressRange.{address_range_of}
use Rattle.rules_extents.proofs.OwnThenPairs.{breaks_at_first, first_fault_is}
use Rattle.policy_lawful.specs.ByIndex.{block_extent}
use Rattle.policy_lawful.specs.MoreRules.{offence_19}
use Rattle.policy_lawful.specs.Offences.{alone}
use Rattle.policy_lawful.specs.Ranges.{in_a_block}
use Rattle.policy_lawful.specs.Resolution.{Resolution, source_of}
use Rattle.policy_lawful.specs.Rules.{first_overlap}
use Rattle.policy_lawful.specs.declared.offence.Extent.{Extent}
use Rattle.policy_lawful.specs.source.Source.{Source}
use Rattle.rules_extents.specs.Fixed.{block_extents, fixed_extents}

-- ---- the search

pub inside_within : (p : Extent → Bool) (xs : List Extent) → position_or_len (λ e. not (p e)) xs ≤ length xs
inside_within p xs = prefix_len-le-length (λ e. not (not (p e))) xs

same_position : (p q : Extent → Bool) → ((x : Extent) → p x ≡ q x) → (xs : List Extent) → position_or_len (λ e. not (p e)) xs ≡ position_or_len (λ e. not (q e)) xs
same_position p q same [] = refl
same_position p q same (x ∷ xs) = λ i. cond (not (not (same x i))) (1 + same_position p q same xs i) 0

abbrev is_inside : Source → Extent → Bool
is_inside p e = in_a_block p.memory_blocks e.address e.size

pub fixed_by_extent : (r : Resolution) (n : ℕ) → n ≡ position_or_len (λ e. not (inside.is_inside (block_extents r.memory_blocks) e)) (fixed_extents r.memory)
    → option_or (first_overlap (take n (fixed_extents r.memory))) (option_map (λ e. alone e.name) (slice_get (fixed_extents r.memory) n)) ≡ offence_19 (source_of r)
unfolding offence_19 source_of
fixed_by_extent r n is =
    let xs = fixed_extents r.memory in
    let same : (e : Extent) → inside.is_inside (block_extents r.memory_blocks) e ≡ is_inside (source_of r) e = λ e. list_any-map (λ b. holds e (address_range_of b)) block_extent r.memory_blocks in
    let at : n ≡ position_or_len (λ e. not (is_inside (source_of r) e)) xs = is ∙ same_position (inside.is_inside (block_extents r.memory_blocks)) (is_inside (source_of r)) same xs in
    ap (λ m. option_or (first_overlap (take m xs)) (option_map (λ e. alone e.name) (slice_get xs m))) at
    ∙ sym (first_fault_is (is_inside (source_of r)) xs (position_or_len (λ e. not (is_inside (source_of r) e)) xs) (breaks_at_first (is_inside (source_of r)) xs))
