-- Lists side by side: what is found in the one has something beside it in the other.
use Rattle.std.proofs.Common.{◌≡◌, Bool, true, List, [], ◌∷◌, map, Some, find, ap}
use Rattle.std.specs.List.{AllZip}
use Rattle.muen_num.proofs.Members.{In, at_in, find_in, index_in}
use Rattle.muen_num.proofs.Pairs.{first_at}

-- what was found has this beside it, and passes
pub record IsBeside {A B : Type 0} (R : A → B → Type 0) (p : B → Bool) (xs : List A) (y : B) : Type 0 where
  pub other : A
  pub within : In other xs
  pub related : R other y
  pub passes : p y ≡ true

-- there is such a one
pub beside : {A B : Type 0} (R : A → B → Type 0) (p : B → Bool) (xs : List A) (ys : List B) (y : B) → AllZip R xs ys → find p ys ≡ Some y → IsBeside R p xs y
beside R p xs ys y zipped e =
    let found = find_in p ys y e in
    let at = index_in ys y found.0 in
    let x = first_at R xs ys at.0 y zipped at.1 in
    record { other = x.0; within = at_in xs at.0 x.0 x.1; related = x.2; passes = found.1 }

-- the first of some, or this one
abbrev first_of : {X : Type 0} → X → List X → X
first_of d [] = d
first_of d (x ∷ xs) = x

-- all but the first
abbrev behind : {X : Type 0} → List X → List X
behind [] = []
behind (x ∷ xs) = xs

-- lists side by side, with what both are mapped to
pub both_mapped : {A B C : Type 0} (R : A → B → Type 0) (f : A → C) (h : B → C) (xs : List A) (ys : List B) → AllZip R xs ys → map h ys ≡ map f xs
    → AllZip (λ x y. R x y × (h y ≡ f x)) xs ys
both_mapped R f h [] [] zipped e = tt
both_mapped R f h [] (y ∷ ys) zipped e = absurd zipped
both_mapped R f h (x ∷ xs) [] zipped e = absurd zipped
both_mapped R f h (x ∷ xs) (y ∷ ys) zipped e = ((zipped.0, ap (first_of (h y)) e), both_mapped R f h xs ys zipped.1 (ap behind e))
