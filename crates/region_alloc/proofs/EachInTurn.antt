-- What holds of each region holds of each in turn, and the other way round.
use Rattle.std.proofs.Common.{◌≡◌, ℕ, zero, suc, ◌+◌, inl, inr, Bool, All, List, [], ◌∷◌, ◌++◌, Some, subst, arith}
use Rattle.std.specs.Prelude.{filter, nat_le, not, slice_get}
use Rattle.std.specs.List.{enumerate_from}
use Rattle.std.proofs.lemmas.Bool.{cases_Bool}
use Rattle.std.proofs.lemmas.List.Elements.{All-append, All-cons, All-filter, All-head, All-nil, All-tail}
use Rattle.expand_kernel.proofs.Ordered.{All-in_order}
use Rattle.expand_kernel.specs.Ordered.{in_order, inserted}
use Rattle.expand_kernel.specs.thing.Region.{Region}
use Rattle.region_alloc.specs.Placement.{in_turn, has_fixed_address}

-- what holds of each with its number
pub each_in_turn : (P : ℕ × Region → Type 0) (regions : List Region) → All P (enumerate_from 0 regions) → All P (in_turn regions)
unfolding in_turn
each_in_turn P regions h =
    All-append P (filter (λ x. has_fixed_address x.1) (enumerate_from 0 regions)) _
    (All-filter (λ x. has_fixed_address x.1) P (enumerate_from 0 regions) h)
    (All-in_order (λ x y. nat_le y.1.size x.1.size) P (filter (λ x. not (has_fixed_address x.1)) (enumerate_from 0 regions))
    (All-filter (λ x. not (has_fixed_address x.1)) P (enumerate_from 0 regions) h))

numbered : (P : Region → Type 0) (k : ℕ) (regions : List Region) → All P regions → All (λ x. P x.1) (enumerate_from k regions)
numbered P k [] h = All-nil (λ x. P x.1)
numbered P k (r ∷ rs) h = All-cons (λ x. P x.1) (k, r) (enumerate_from (k + 1) rs) (All-head P r rs h) (numbered P (k + 1) rs (All-tail P r rs h))

pub regions_in_turn : (P : Region → Type 0) (regions : List Region) → All P regions → All (λ x. P x.1) (in_turn regions)
regions_in_turn P regions h = each_in_turn (λ x. P x.1) regions (numbered P 0 regions h)

-- ---- the other way round

all_split : {X : Type 0} (P : X → Type 0) (xs ys : List X) → All P (xs ++ ys) → All P xs × All P ys
all_split P [] ys h = (All-nil P, h)
all_split P (x ∷ xs) ys h =
    let rest = all_split P xs ys (All-tail P x (xs ++ ys) h) in
    (All-cons P x xs (All-head P x (xs ++ ys) h) rest.0, rest.1)

from_inserted : {X : Type 0} (before : X → X → Bool) (P : X → Type 0) (x : X) (ys : List X) → All P (inserted before x ys) → P x × All P ys
unfolding inserted
from_inserted before P x [] h = (All-head P x [] h, All-nil P)
from_inserted before P x (y ∷ ys) h = elim (cases_Bool (before x y)) [
  | inl here ↦
      let all : All P (x ∷ y ∷ ys) = rw here at h in
      (All-head P x (y ∷ ys) all, All-tail P x (y ∷ ys) all)
  | inr later ↦
      let all : All P (y ∷ inserted before x ys) = rw later at h in
      let rest = from_inserted before P x ys (All-tail P y (inserted before x ys) all) in
      (rest.0, All-cons P y ys (All-head P y (inserted before x ys) all) rest.1)
]

from_in_order : {X : Type 0} (before : X → X → Bool) (P : X → Type 0) (xs : List X) → All P (in_order before xs) → All P xs
unfolding in_order
from_in_order before P [] h = h
from_in_order before P (x ∷ xs) h =
    let both = from_inserted before P x (in_order before xs) h in
    All-cons P x xs both.0 (from_in_order before P xs both.1)

from_both : {X : Type 0} (p : X → Bool) (P : X → Type 0) (xs : List X) → All P (filter p xs) → All P (filter (λ x. not (p x)) xs) → All P xs
from_both p P [] h k = h
from_both p P (x ∷ xs) h k = elim (cases_Bool (p x)) [
  | inl passes ↦
      let some : All P (x ∷ filter p xs) = rw passes at h in
      let none : All P (filter (λ x. not (p x)) xs) = rw passes at k in
      All-cons P x xs (All-head P x (filter p xs) some) (from_both p P xs (All-tail P x (filter p xs) some) none)
  | inr fails ↦
      let none : All P (filter p xs) = rw fails at h in
      let some : All P (x ∷ filter (λ x. not (p x)) xs) = rw fails at k in
      All-cons P x xs (All-head P x (filter (λ x. not (p x)) xs) some) (from_both p P xs none (All-tail P x (filter (λ x. not (p x)) xs) some))
]

pub each_from_turns : (P : ℕ × Region → Type 0) (regions : List Region) → All P (in_turn regions) → All P (enumerate_from 0 regions)
unfolding in_turn
each_from_turns P regions h =
    let parts = all_split P (filter (λ x. has_fixed_address x.1) (enumerate_from 0 regions)) _ h in
    from_both (λ x. has_fixed_address x.1) P (enumerate_from 0 regions) parts.0
    (from_in_order (λ x y. nat_le y.1.size x.1.size) P (filter (λ x. not (has_fixed_address x.1)) (enumerate_from 0 regions)) parts.1)

-- ---- by number

pub numbered_at : {X : Type 0} (P : ℕ × X → Type 0) (k : ℕ) (xs : List X) → All P (enumerate_from k xs) → (i : ℕ) (x : X) → slice_get xs i ≡ Some x → P (k + i, x)
numbered_at P k [] h i x e = absurd (cc)
numbered_at P k (y ∷ ys) h zero x e =
    let is : y ≡ x = cc in
    let first : k ≡ k + 0 = omega arith in
    subst (λ n. P (n, x)) first (subst (λ z. P (k, z)) is (All-head P (k, y) (enumerate_from (k + 1) ys) h))
numbered_at P k (y ∷ ys) h (suc i) x e =
    let more : (k + 1) + i ≡ k + suc i = omega arith in
    subst (λ n. P (n, x)) more (numbered_at P (k + 1) ys (All-tail P (k, y) (enumerate_from (k + 1) ys) h) i x e)
