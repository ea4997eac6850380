-- From which vector on a set has none.
use Rattle.std.proofs.Common.{◌≡◌, ℕ, zero, suc, ◌<◌, ◌≤◌, Bool, false, List, [], ◌∷◌, length, get_or, set, map, replicate, refl, ap, arith, inl, inr}
use Rattle.std.proofs.lemmas.Bool.{cases_lt}
use Rattle.muen_num.specs.ListChange.{change_at}
use Rattle.event_router.specs.Vectors.{greatest}

pub none_in_no_marks : (n v : ℕ) → get_or (replicate n false) v false ≡ false
none_in_no_marks zero v = refl
none_in_no_marks (suc n) zero = refl
none_in_no_marks (suc n) (suc v) = none_in_no_marks n v

pub greatest_stays : (n k : ℕ) (test : ℕ → Bool) → n ≤ k → ((v : ℕ) → n ≤ v → test v ≡ false) → greatest n test ≡ greatest k test
greatest_stays zero zero test le none = refl
greatest_stays (suc n) zero test le none = absurd (omega arith)
greatest_stays n (suc k) test le none =
    elim (cases_lt k n) [ inl l ↦ (let e : n ≡ suc k = omega arith in ap (λ m. greatest m test) e) | inr g ↦ rw (none k g, greatest_stays n k test g none) refl ]

-- one of a list of which each element is seen as something else
pub seen_change : {X Y : Type 0} (see : X → Y) (f : Y → Y) (i : ℕ) (xs : List X) (d y : X) → i < length xs → see y ≡ f (see (get_or xs i d))
    → map see (set xs i y) ≡ change_at i f (map see xs)
seen_change see f i [] d y l e = absurd (omega arith)
seen_change see f zero (x ∷ xs) d y l e = ap (λ z. z ∷ map see xs) e
seen_change see f (suc i) (x ∷ xs) d y l e = ap (λ zs. see x ∷ zs) (seen_change see f i xs d y (omega arith) e)

pub seen_past : {X Y : Type 0} (see : X → Y) (f : Y → Y) (i : ℕ) (xs : List X) → length xs ≤ i → map see xs ≡ change_at i f (map see xs)
seen_past see f i [] l = refl
seen_past see f zero (x ∷ xs) l = absurd (omega arith)
seen_past see f (suc i) (x ∷ xs) l = ap (λ zs. see x ∷ zs) (seen_past see f i xs (omega arith))
