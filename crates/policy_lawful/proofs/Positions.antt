-- Where the first element stands that passes a test.
use Rattle.std.proofs.Common.{◌≡◌, ℕ, ◌+◌, Bool, true, false, cond, List, [], ◌∷◌, length, Some, None, refl, ap, ◌∙◌, arith}
use Rattle.std.specs.Prelude.{not, nat_lt, position}
use Rattle.std.specs.List.{position_or_len}
use Rattle.std.proofs.lemmas.Bool.{ltb-false}
use Rattle.std.proofs.lemmas.List.Sums.{prefix_len-le-length}

-- by two tests that agree
pub position_same : {X : Type 0} (p q : X → Bool) → ((x : X) → p x ≡ q x) → (xs : List X) → position_or_len p xs ≡ position_or_len q xs
position_same p q same [] = refl
position_same p q same (x ∷ xs) =
    ap (λ b. cond (not b) (1 + position_or_len p xs) 0) (same x) ∙ ap (λ n. cond (not (q x)) (1 + n) 0) (position_same p q same xs)

-- found, or not
pub position_found : {X : Type 0} (p : X → Bool) (xs : List X) (k : ℕ) → position p xs ≡ Some k → position_or_len p xs ≡ k
position_found p xs k e =
    elim (nat_lt (position_or_len p xs) (length xs)) as (λ b. cond b (Some (position_or_len p xs)) None ≡ Some k → position_or_len p xs ≡ k) [
      | true ↦ λ is. cc
      | false ↦ λ is. absurd (cc)
    ] e

pub position_none : {X : Type 0} (p : X → Bool) (xs : List X) → position p xs ≡ None → position_or_len p xs ≡ length xs
position_none p xs e =
    let most = prefix_len-le-length (λ x. not (p x)) xs in
    elim (nat_lt (position_or_len p xs) (length xs)) as (λ b. nat_lt (position_or_len p xs) (length xs) ≡ b → cond b (Some (position_or_len p xs)) None ≡ None → position_or_len p xs ≡ length xs) [
      | true ↦ λ t is. absurd (cc)
      | false ↦ λ f is. let l = ltb-false (position_or_len p xs) (length xs) f in omega arith
    ] refl e
