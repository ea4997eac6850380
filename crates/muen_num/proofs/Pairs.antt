-- Laws of two lists side by side, and of each two elements of one list.
use Rattle.std.proofs.Common.{◌≡◌, ℕ, zero, suc, ◌<◌, List, [], ◌∷◌, length, map, get_or, Some, refl, ap, subst, arith}
use Rattle.std.specs.Prelude.{slice_get}
use Rattle.std.specs.List.{AllPairs, AllZip, zip}
use Rattle.std.proofs.lemmas.List.{get_or-map, length-map}
use Rattle.std.proofs.lemmas.List.Elements.{All-map}
use Rattle.std.proofs.lemmas.List.Kept.{AllPairs-cons}
use Rattle.std.proofs.lemmas.Option.{same_Some}

-- ---- two lists side by side

pub zipped_at : {X Y : Type 0} (xs : List X) (ys : List Y) (n : ℕ) (x : X) (y : Y) → slice_get xs n ≡ Some x → slice_get ys n ≡ Some y → slice_get (zip xs ys) n ≡ Some (x, y)
zipped_at [] ys n x y a b = absurd (cc)
zipped_at (z ∷ zs) [] n x y a b = absurd (cc)
zipped_at (z ∷ zs) (w ∷ ws) zero x y a b =
    let p : z ≡ x = cc in
    let q : w ≡ y = cc in
    (λ i. Some (p i, q i))
zipped_at (z ∷ zs) (w ∷ ws) (suc n) x y a b = zipped_at zs ws n x y a b

-- what stands at an index of both stands there in each
pub zipped_both : {X Y : Type 0} (xs : List X) (ys : List Y) (n : ℕ) (e : X × Y) → slice_get (zip xs ys) n ≡ Some e → (slice_get xs n ≡ Some e.0) × (slice_get ys n ≡ Some e.1)
zipped_both [] ys n e at = absurd (cc)
zipped_both (x ∷ xs) [] n e at = absurd (cc)
zipped_both {X} {Y} (x ∷ xs) (y ∷ ys) zero e at =
    let same : (x, y) ≡ e = same_Some {A = X × Y} (x, y) e at in
    (ap (λ (w : X × Y). Some w.0) same, ap (λ (w : X × Y). Some w.1) same)
zipped_both (x ∷ xs) (y ∷ ys) (suc n) e at = zipped_both xs ys n e at

-- ---- two lists of which a relation holds, index by index

pub both_at : {X Y : Type 0} (R : X → Y → Type 0) (xs : List X) (ys : List Y) (k : ℕ) (x : X) (y : Y) → AllZip R xs ys → slice_get xs k ≡ Some x → slice_get ys k ≡ Some y → R x y
both_at R [] ys k x y h a b = absurd (cc)
both_at R (z ∷ zs) [] k x y h a b = absurd h
both_at R (z ∷ zs) (w ∷ ws) zero x y h a b =
    let p : z ≡ x = cc in
    let q : w ≡ y = cc in
    subst (λ u. R u y) p (subst (R z) q h.0)
both_at R (z ∷ zs) (w ∷ ws) (suc k) x y h a b = both_at R zs ws k x y h.1 a b

-- what stands at an index of the first has something at that index of the second
pub other_at : {X Y : Type 0} (R : X → Y → Type 0) (xs : List X) (ys : List Y) (k : ℕ) (x : X) → AllZip R xs ys → slice_get xs k ≡ Some x → (y : Y) × (slice_get ys k ≡ Some y) × R x y
other_at R [] ys k x h a = absurd (cc)
other_at R (z ∷ zs) [] k x h a = absurd h
other_at R (z ∷ zs) (w ∷ ws) zero x h a = let p : z ≡ x = cc in (w, refl, subst (λ u. R u w) p h.0)
other_at R (z ∷ zs) (w ∷ ws) (suc k) x h a = other_at R zs ws k x h.1 a

-- and the other way round
pub first_at : {X Y : Type 0} (R : X → Y → Type 0) (xs : List X) (ys : List Y) (k : ℕ) (y : Y) → AllZip R xs ys → slice_get ys k ≡ Some y → (x : X) × (slice_get xs k ≡ Some x) × R x y
first_at R [] [] k y h a = absurd (cc)
first_at R [] (w ∷ ws) k y h a = absurd h
first_at R (z ∷ zs) [] k y h a = absurd (cc)
first_at R (z ∷ zs) (w ∷ ws) zero y h a = let p : w ≡ y = cc in (z, refl, subst (R z) p h.0)
first_at R (z ∷ zs) (w ∷ ws) (suc k) y h a = first_at R zs ws k y h.1 a

-- what holds of what stands at each index of two lists holds of the lists
pub zip_from : {X Y : Type 0} (R : X → Y → Type 0) (xs : List X) (ys : List Y) → length xs ≡ length ys → ((k : ℕ) (x : X) (y : Y) → slice_get xs k ≡ Some x → slice_get ys k ≡ Some y → R x y) → AllZip R xs ys
zip_from R [] [] l h = tt
zip_from R [] (y ∷ ys) l h = absurd (omega (arith, l))
zip_from R (x ∷ xs) [] l h = absurd (omega (arith, l))
zip_from R (x ∷ xs) (y ∷ ys) l h = (h 0 x y refl refl, zip_from R xs ys (omega (arith, l)) (λ k a b p q. h (suc k) a b p q))

-- ---- each two elements of one list

pub pairs_mapped : {X Y : Type 0} (f : X → Y) (R : Y → Y → Type 0) (xs : List X) → AllPairs (λ a b. R (f a) (f b)) xs → AllPairs R (map f xs)
pairs_mapped f R [] h = λ i j d p q. absurd (omega arith)
pairs_mapped f R (x ∷ xs) h =
    AllPairs-cons R (f x) (map f xs) (All-map (R (f x)) f xs (λ k d l. h 0 (suc k) d (omega arith) (omega arith)))
    (pairs_mapped f R xs (λ i j d p q. h (suc i) (suc j) d (omega arith) (omega arith)))

-- and back
pub pairs_unmapped : {X Y : Type 0} (f : X → Y) (R : Y → Y → Type 0) (xs : List X) → AllPairs R (map f xs) → AllPairs (λ a b. R (f a) (f b)) xs
pairs_unmapped f R xs h i j d p q =
    let many = length-map xs f in
    let l : i < length xs = omega (arith, p, q) in
    subst (λ a. R a (f (get_or xs j d))) (get_or-map f xs i d (f d) l)
    (subst (R (get_or (map f xs) i (f d))) (get_or-map f xs j d (f d) q) (h i j (f d) p (omega (arith, many, q))))
