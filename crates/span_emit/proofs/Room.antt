-- Ranges that share no number and lie inside blocks have no more room than the blocks.
use Rattle.std.proofs.Common.{◌≡◌, ℕ, ◌+◌, ◌≤◌, Bool, true, false, All, List, [], ◌∷◌, refl, arith}
use Rattle.std.specs.Prelude.{◌&&◌, ◌||◌, filter, nat_le, not}
use Rattle.std.specs.List.{AllPairs, sum_by}
use Rattle.std.proofs.lemmas.Bool.{and_parts, leb-true}
use Rattle.std.proofs.lemmas.List.Elements.{All-filter, All-head, All-tail, All-weaker, filter_passes}
use Rattle.std.proofs.lemmas.List.Filters.{sum_by-filter_both}
use Rattle.std.proofs.lemmas.List.Kept.{AllPairs-filter}
use Rattle.std.proofs.lemmas.List.Sums.{sum_by-cons}
use Rattle.policy_lawful.specs.source.Block.{Block}
use Rattle.span_emit.proofs.PairLaws.{pairs_head, pairs_tail}
use Rattle.policy_lawful.specs.Ranges.{in_a_block}

other_one : (p q : Bool) → (p || q) ≡ true → not p ≡ true → q ≡ true
other_one true q a b = absurd (cc)
other_one false q a b = a

-- what passes one of two tests and not the first passes the second
others_pass : {X : Type 0} (p q : X → Bool) (xs : List X) → All (λ x. (p x || q x) ≡ true) xs → All (λ x. q x ≡ true) (filter (λ x. not (p x)) xs)
others_pass p q xs h = λ k d l.
    let either = All-filter (λ x. not (p x)) (λ x. (p x || q x) ≡ true) xs h k d l in
    let first = filter_passes (λ x. not (p x)) xs k d l in
    other_one _ _ either first

module _ {X : Type 0} (start size : X → ℕ) where
  abbrev IsBefore : X → X → Type 0
  IsBefore a b = start a + size a ≤ start b

  -- between two addresses
  within : (low high : ℕ) (xs : List X) → AllPairs IsBefore xs → All (λ x. low ≤ start x) xs → All (λ x. start x + size x ≤ high) xs → low ≤ high → low + sum_by size xs ≤ high
  within low high [] up from to l = omega arith
  within low high (x ∷ xs) up from to l =
      let first = All-head (λ x. low ≤ start x) x xs from in
      let end = All-head (λ x. start x + size x ≤ high) x xs to in
      let rest = within (start x + size x) high xs (pairs_tail IsBefore x xs up) (pairs_head IsBefore x xs up) (All-tail (λ x. start x + size x ≤ high) x xs to) end in
      let sum = sum_by-cons size x xs in
      omega arith

  abbrev is_here : Block → X → Bool
  is_here b x = nat_le b.physical_address (start x) && nat_le (start x + size x) (b.physical_address + b.size)

  pub in_blocks : (blocks : List Block) (xs : List X) → AllPairs IsBefore xs → All (λ x. in_a_block blocks (start x) (size x) ≡ true) xs → sum_by size xs ≤ sum_by (λ b. b.size) blocks
  in_blocks [] [] up h = omega arith
  in_blocks [] (x ∷ xs) up h = let none = All-head (λ x. in_a_block [] (start x) (size x) ≡ true) x xs h in absurd (cc)
  in_blocks (b ∷ bs) xs up h =
      let here = filter_passes (is_here b) xs in
      let low = All-weaker (λ x. is_here b x ≡ true) (λ x. b.physical_address ≤ start x) (λ x e. leb-true _ _ (and_parts (nat_le b.physical_address (start x)) (nat_le (start x + size x) (b.physical_address + b.size)) e).0) _ here in
      let high = All-weaker (λ x. is_here b x ≡ true) (λ x. start x + size x ≤ b.physical_address + b.size) (λ x e. leb-true _ _ (and_parts (nat_le b.physical_address (start x)) (nat_le (start x + size x) (b.physical_address + b.size)) e).1) _ here in
      let inside = within b.physical_address (b.physical_address + b.size) _ (AllPairs-filter IsBefore (is_here b) xs up) low high (omega arith) in
      let others = in_blocks bs _ (AllPairs-filter IsBefore (λ x. not (is_here b x)) xs up) (others_pass (is_here b) (λ x. in_a_block bs (start x) (size x)) xs h) in
      let both = sum_by-filter_both (is_here b) (λ x. not (is_here b x)) (λ x. refl) size xs in
      let sum = sum_by-cons (λ b. b.size) b bs in
      omega arith
