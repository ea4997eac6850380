-- What holds at each place of two lists.
use Rattle.std.proofs.Common.{◌≡◌, ℕ, zero, suc, ◌<◌, inl, inr, List, [], ◌∷◌, length, map, refl, ap, ap₂, subst, arith}
use Rattle.std.specs.Prelude.{min, slice_index_or}
use Rattle.std.specs.List.{All, AllZip, zip}
use Rattle.std.proofs.lemmas.Bool.{cases_lt}
use Rattle.std.proofs.lemmas.List.{get_or_default}
use Rattle.std.proofs.lemmas.Slice.Zip.{length-zip}
use Rattle.image_checks.specs.Firsts.{FailsFirst, HoldsAt}
use Rattle.image_checks.specs.PlanFault.{AgreesAt, DiffersFirst}

-- ---- one list

-- two lists that have the same at each place are the same
pub same_places : {X : Type 0} (xs ys : List X) → length xs ≡ length ys → ((k : ℕ) (d : X) → k < length xs → slice_index_or xs k d ≡ slice_index_or ys k d) → xs ≡ ys
same_places [] [] many h = refl
same_places [] (y ∷ ys) many h = absurd (omega (arith, many))
same_places (x ∷ xs) [] many h = absurd (omega (arith, many))
same_places (x ∷ xs) (y ∷ ys) many h =
    ap₂ (λ z zs. z ∷ zs) (h 0 x (omega arith)) (same_places xs ys (omega (arith, many)) (λ k d l. h (suc k) d (omega (arith, l))))

-- lists that are mapped to the same, where different elements aren't
pub same_unmapped : {X Y : Type 0} (f : X → Y) → ((a b : X) → f a ≡ f b → a ≡ b) → (xs ys : List X) → map f xs ≡ map f ys → xs ≡ ys
same_unmapped f apart [] [] h = refl
same_unmapped f apart [] (y ∷ ys) h = absurd (cc (h))
same_unmapped f apart (x ∷ xs) [] h = absurd (cc (h))
same_unmapped f apart (x ∷ xs) (y ∷ ys) h = ap₂ (λ z zs. z ∷ zs) (apart x y (cc (h))) (same_unmapped f apart xs ys (cc (h)))

-- it holds of what stands at a place that is there
pub holds_there : {X : Type 0} (P : X → Type 0) (xs : List X) (k : ℕ) (d : X) → k < length xs → P (slice_index_or xs k d) → HoldsAt P xs k
holds_there P xs k d l h e = subst P (get_or_default xs k d e l) h

-- the first place at which it fails
pub fails_first : {X : Type 0} (P : X → Type 0) (xs : List X) (k : ℕ) → k < length xs → ((j : ℕ) → j < k → HoldsAt P xs j) → (HoldsAt P xs k → ⊥) → FailsFirst P xs k
fails_first P xs k l before here = record {
  within = l;
  before = λ j d m. before j m d;
  here = λ d h. here (holds_there P xs k d l h);
}

-- it holds at each place
pub all_places : {X : Type 0} (P : X → Type 0) (xs : List X) → ((j : ℕ) → j < length xs → HoldsAt P xs j) → All P xs
all_places P xs h = λ j d l. h j l d

-- ---- two lists

-- as many pairs as elements, where both have as many
pub many_pairs : {X Y : Type 0} (xs : List X) (ys : List Y) → length ys ≡ length xs → length (zip xs ys) ≡ length ys
many_pairs xs ys many = let e = length-zip xs ys in omega (arith, e, many)

-- what holds of both at each place
pub at_place : {X Y : Type 0} (R : X → Y → Type 0) (xs : List X) (ys : List Y) → AllZip R xs ys → (k : ℕ) → k < length xs → AgreesAt R xs ys k
at_place R [] ys h k l x y = absurd (omega (arith, l))
at_place R (a ∷ xs) [] h k l x y = absurd h
at_place R (a ∷ xs) (b ∷ ys) h zero l x y = h.0
at_place R (a ∷ xs) (b ∷ ys) h (suc k) l x y = at_place R xs ys h.1 k (omega (arith, l)) x y

pub of_places : {X Y : Type 0} (R : X → Y → Type 0) (xs : List X) (ys : List Y) → length xs ≡ length ys → ((k : ℕ) → k < length xs → AgreesAt R xs ys k) → AllZip R xs ys
of_places R [] [] many h = tt
of_places R [] (b ∷ ys) many h = absurd (omega (arith, many))
of_places R (a ∷ xs) [] many h = absurd (omega (arith, many))
of_places R (a ∷ xs) (b ∷ ys) many h = (h 0 (omega arith) a b, of_places R xs ys (omega (arith, many)) (λ k l x y. h (suc k) (omega (arith, l)) x y))

-- as many
pub as_many : {X Y : Type 0} (R : X → Y → Type 0) (xs : List X) (ys : List Y) → AllZip R xs ys → length xs ≡ length ys
as_many R [] [] h = refl
as_many R [] (b ∷ ys) h = absurd h
as_many R (a ∷ xs) [] h = absurd h
as_many R (a ∷ xs) (b ∷ ys) h = ap suc (as_many R xs ys h.1)

-- it holds at a place that both have
pub agrees_there : {X Y : Type 0} (R : X → Y → Type 0) (xs : List X) (ys : List Y) (k : ℕ) (x : X) (y : Y) → k < length xs → k < length ys → R (slice_index_or xs k x) (slice_index_or ys k y) → AgreesAt R xs ys k
agrees_there R xs ys k x y l m h a b =
    subst (λ v. R v (slice_index_or ys k b)) (get_or_default xs k x a l) (subst (R (slice_index_or xs k x)) (get_or_default ys k y b m) h)

-- where it holds of all, there is no first place at which it fails
pub no_first : {X Y : Type 0} (R : X → Y → Type 0) (xs : List X) (ys : List Y) (k : ℕ) → DiffersFirst R xs ys k → AllZip R xs ys → ⊥
no_first R xs ys k d h =
    let many = as_many R xs ys h in
    elim d.there [
      | inl l ↦ d.here l (omega (arith, l, many)) (at_place R xs ys h k l)
      | inr l ↦ let m : k < length xs = omega (arith, l, many) in d.here m l (at_place R xs ys h k m)
    ]

-- the first place at which it fails, where both have something
pub differs_there : {X Y : Type 0} (R : X → Y → Type 0) (xs : List X) (ys : List Y) (k : ℕ) → k < length xs → k < length ys → ((j : ℕ) → j < k → AgreesAt R xs ys j) → (AgreesAt R xs ys k → ⊥) → DiffersFirst R xs ys k
differs_there R xs ys k l m before here = record {
  there = inl l;
  before = λ j low. (omega (arith, l, low), omega (arith, m, low), before j low);
  here = λ _ _ h. here h;
}

-- or where one has nothing more
pub differs_behind : {X Y : Type 0} (R : X → Y → Type 0) (xs : List X) (ys : List Y) (k : ℕ) → k ≡ min (length xs) (length ys) → (length xs ≡ length ys → ⊥) → ((j : ℕ) → j < k → AgreesAt R xs ys j) → DiffersFirst R xs ys k
differs_behind R xs ys k is apart before = record {
  there = elim (cases_lt (length xs) (length ys)) [
    | inl l ↦ inr (omega (arith, is, l))
    | inr l ↦ inl (omega (arith, is, l, apart))
  ];
  before = λ j low. (omega (arith, is, low), omega (arith, is, low), before j low);
  here = λ l m _. absurd (omega (arith, is, l, m));
}
