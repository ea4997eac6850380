-- Elements of lists by index.
use Rattle.std.proofs.Common.{◌≡◌, ℕ, zero, suc, ◌+◌, List, [], ◌∷◌, ◌++◌, length, take, Some, ap, ◌∙◌, arith, length-append}
use Rattle.std.specs.Prelude.{slice_get}
use Rattle.std.specs.List.{flat_map}
use Rattle.std.proofs.lemmas.Option.{slice_get_within}
use Rattle.muen_num.proofs.Lists.{get_left, get_right}

-- the j-th of the i-th piece stands after the pieces before it
pub at_piece : {X Y : Type 0} (f : X → List Y) (xs : List X) (i j : ℕ) (x : X) (y : Y) → slice_get xs i ≡ Some x → slice_get (f x) j ≡ Some y
    → slice_get (flat_map f xs) (length (flat_map f (take i xs)) + j) ≡ Some y
at_piece f [] i j x y e h = absurd (cc)
at_piece f (z ∷ zs) zero j x y e h =
    let same : z ≡ x = cc in
    let here : slice_get (f z) j ≡ Some y = ap (λ w. slice_get (f w) j) same ∙ h in
    let first : 0 + j ≡ j = omega arith in
    ap (slice_get (f z ++ flat_map f zs)) first ∙ get_left (f z) (flat_map f zs) j (slice_get_within (f z) j y here) ∙ here
at_piece f (z ∷ zs) (suc i) j x y e h =
    let before = flat_map f (take i zs) in
    let many : length (f z ++ before) ≡ length (f z) + length before = length-append (f z) before in
    let n : length (f z ++ before) + j ≡ length (f z) + (length before + j) = omega (arith, many) in
    ap (slice_get (f z ++ flat_map f zs)) n ∙ get_right (f z) (flat_map f zs) (length before + j) ∙ at_piece f zs i j x y e h
