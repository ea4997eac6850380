-- Lists that are mapped, joined of pieces, and paired.
use Rattle.std.proofs.Common.{◌≡◌, ℕ, suc, List, [], ◌∷◌, ◌++◌, length, map, Some, refl, ap, ap₂, arith}
use Rattle.std.specs.Prelude.{slice_get}
use Rattle.std.specs.List.{AllZip, flat_map, zip}

-- ---- mapped

-- by two functions that are the same at each that is there
pub map_at : {X Y : Type 0} (f g : X → Y) (xs : List X) → ((k : ℕ) (x : X) → slice_get xs k ≡ Some x → f x ≡ g x) → map f xs ≡ map g xs
map_at f g [] same = refl
map_at f g (x ∷ xs) same = ap₂ (λ y ys. y ∷ ys) (same 0 x refl) (map_at f g xs (λ k y at. same (suc k) y at))

pub flat_map_at : {X Y : Type 0} (f g : X → List Y) (xs : List X) → ((k : ℕ) (x : X) → slice_get xs k ≡ Some x → f x ≡ g x) → flat_map f xs ≡ flat_map g xs
flat_map_at f g [] same = refl
flat_map_at f g (x ∷ xs) same = ap₂ (λ ys zs. ys ++ zs) (same 0 x refl) (flat_map_at f g xs (λ k y at. same (suc k) y at))

-- ---- paired

pub zip_map_both : {X A B : Type 0} (R : A → B → Type 0) (f : X → A) (g : X → B) → ((x : X) → R (f x) (g x)) → (xs : List X) → AllZip R (map f xs) (map g xs)
zip_map_both R f g h [] = tt
zip_map_both R f g h (x ∷ xs) = (h x, zip_map_both R f g h xs)

pub zip_append : {A B : Type 0} (R : A → B → Type 0) (xs : List A) (ys : List B) (zs : List A) (ws : List B) → AllZip R xs ys → AllZip R zs ws → AllZip R (xs ++ zs) (ys ++ ws)
zip_append R [] [] zs ws a b = b
zip_append R [] (y ∷ ys) zs ws a b = absurd a
zip_append R (x ∷ xs) [] zs ws a b = absurd a
zip_append R (x ∷ xs) (y ∷ ys) zs ws a b = (a.0, zip_append R xs ys zs ws a.1 b)

pub zip_pieces : {X A B : Type 0} (R : A → B → Type 0) (f : X → List A) (g : X → List B) → ((x : X) → AllZip R (f x) (g x)) → (xs : List X) → AllZip R (flat_map f xs) (flat_map g xs)
zip_pieces R f g h [] = tt
zip_pieces R f g h (x ∷ xs) = zip_append R (f x) (g x) (flat_map f xs) (flat_map g xs) (h x) (zip_pieces R f g h xs)

-- two lists that are paired, each joined of two
pub zip_joined : {A B : Type 0} (xs : List A) (ys : List B) (zs : List A) (ws : List B) → length xs ≡ length ys → zip (xs ++ zs) (ys ++ ws) ≡ zip xs ys ++ zip zs ws
zip_joined [] [] zs ws h = refl
zip_joined [] (y ∷ ys) zs ws h = absurd (omega (arith, h))
zip_joined (x ∷ xs) [] zs ws h = absurd (omega (arith, h))
zip_joined (x ∷ xs) (y ∷ ys) zs ws h = ap (λ es. (x, y) ∷ es) (zip_joined xs ys zs ws (omega (arith, h)))
