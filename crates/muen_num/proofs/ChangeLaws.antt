-- One element that is changed, and one that is written.
use Rattle.std.proofs.Common.{◌≡◌, ℕ, zero, suc, ◌<◌, ◌≤◌, List, [], ◌∷◌, length, get_or, set, Some, refl, sym, ap, ◌∙◌, arith}
use Rattle.std.specs.Prelude.{slice_get}
use Rattle.std.proofs.lemmas.List.{set_past}
use Rattle.std.proofs.lemmas.Option.{slice_get-get_or}
use Rattle.muen_num.specs.ListChange.{change_at}
use Rattle.muen_num.specs.ListChangeLaws.{TheElementChanges, OtherElementsStay, ListLengthsStay, ChangesJoin}

-- ---- an element that is written

pub change_is : {X : Type 0} (i : ℕ) (f : X → X) (xs : List X) (x y : X) → i < length xs → x ≡ get_or xs i x → y ≡ f x → change_at i f xs ≡ set xs i y
change_is i f [] x y l e h = absurd (omega arith)
change_is zero f (z ∷ xs) x y l e h = rw (h, e) refl
change_is (suc i) f (z ∷ xs) x y l e h = ap (λ ys. z ∷ ys) (change_is i f xs x y (omega arith) e h)

put_is : {X : Type 0} (i : ℕ) (xs : List X) (y : X) → change_at i (λ _. y) xs ≡ set xs i y
put_is i [] y = sym (set_past [] i y (omega arith))
put_is zero (z ∷ xs) y = refl
put_is (suc i) (z ∷ xs) y = ap (λ ys. z ∷ ys) (put_is i xs y)

pub set_is : {X : Type 0} (i : ℕ) (xs : List X) (y : X) → set xs i y ≡ change_at i (λ _. y) xs
set_is i xs y = sym (put_is i xs y)

pub past_is : {X : Type 0} (i : ℕ) (f : X → X) (xs : List X) → length xs ≤ i → xs ≡ change_at i f xs
past_is i f [] h = refl
past_is zero f (z ∷ xs) h = absurd (omega arith)
past_is (suc i) f (z ∷ xs) h = ap (λ ys. z ∷ ys) (past_is i f xs (omega arith))

-- one that is made of the element at its number
pub made_is : {X : Type 0} (i : ℕ) (f : X → X) (xs : List X) (d y : X) → i < length xs → y ≡ f (get_or xs i d) → set xs i y ≡ change_at i f xs
made_is i f [] d y l e = absurd (omega arith)
made_is zero f (z ∷ xs) d y l e = ap (λ x. x ∷ xs) e
made_is (suc i) f (z ∷ xs) d y l e = ap (λ ys. z ∷ ys) (made_is i f xs d y (omega arith) e)

-- the element at its number
pub item_is : {X : Type 0} (i : ℕ) (xs : List X) (x : X) → i < length xs → x ≡ get_or xs i x → slice_get xs i ≡ Some x
item_is i xs x l e = slice_get-get_or xs i x l ∙ ap Some (sym e)

-- ---- laws

pub length_stays : {X : Type 0} → ListLengthsStay X
length_stays i f [] = refl
length_stays zero f (z ∷ xs) = refl
length_stays (suc i) f (z ∷ xs) = ap suc (length_stays i f xs)

pub element_changes : {X : Type 0} → TheElementChanges X
element_changes i f [] = refl
element_changes zero f (z ∷ xs) = refl
element_changes (suc i) f (z ∷ xs) = element_changes i f xs

pub others_stay : {X : Type 0} → OtherElementsStay X
others_stay i j f [] ne = refl
others_stay zero zero f (z ∷ xs) ne = absurd (ne refl)
others_stay zero (suc j) f (z ∷ xs) ne = refl
others_stay (suc i) zero f (z ∷ xs) ne = refl
others_stay (suc i) (suc j) f (z ∷ xs) ne = others_stay i j f xs (λ e. ne (ap suc e))

pub changes_join : {X : Type 0} → ChangesJoin X
changes_join i f g [] = refl
changes_join zero f g (z ∷ xs) = refl
changes_join (suc i) f g (z ∷ xs) = ap (λ ys. z ∷ ys) (changes_join i f g xs)
