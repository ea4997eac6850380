-- Two lists share an index in either order.
use Rattle.std.proofs.Common.{◌≡◌, ℕ, Bool, true, false, List, [], ◌∷◌, refl, sym, ap, ◌∙◌, arith}
use Rattle.std.specs.Prelude.{◌==◌, ◌||◌}
use Rattle.muen_num.proofs.Numbers.{equal_turned}
use Rattle.rules_events.specs.Listings.{AreKnownPairs}
use Rattle.muen_num.specs.Numbers.{is_among, share}
use Rattle.rules_events.specs.declared.listings.Shared.{Shared}

pub none_shared : (xs : List ℕ) → share xs [] ≡ false
none_shared [] = refl
none_shared (x ∷ xs) = none_shared xs

or_past : (a b c d : Bool) → ((a || b) || (c || d)) ≡ ((a || c) || (b || d))
or_past true b c d = refl
or_past false true true d = refl
or_past false true false d = refl
or_past false false c d = refl

-- one more in the second
pub one_more : (y : ℕ) (xs ys : List ℕ) → share xs (y ∷ ys) ≡ (is_among xs y || share xs ys)
one_more y [] ys = refl
one_more y (x ∷ xs) ys =
    ap (λ b. ((y == x) || is_among ys x) || b) (one_more y xs ys)
    ∙ or_past (y == x) (is_among ys x) (is_among xs y) (share xs ys)
    ∙ ap (λ b. (b || is_among xs y) || (is_among ys x || share xs ys)) (equal_turned y x)

pub share_turned : (xs ys : List ℕ) → share ys xs ≡ share xs ys
share_turned xs [] = sym (none_shared xs)
share_turned xs (y ∷ ys) = ap (λ b. is_among xs y || b) (share_turned xs ys) ∙ sym (one_more y xs ys)

-- of no pairs anything is known
pub none_known : (lists : List (List ℕ)) (known : List Shared) → known ≡ [] → AreKnownPairs lists known
none_known lists [] none k d l = absurd (omega arith)
none_known lists (s ∷ known) none k d l = absurd (cc)
