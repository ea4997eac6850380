-- Tests of some element.
use Rattle.std.proofs.Common.{◌≡◌, ℕ, zero, suc, ◌<◌, Bool, true, false, List, [], ◌∷◌, Option, Some, None, refl, ◌∙◌, inl, inr, arith}
use Rattle.std.specs.Prelude.{slice_get}
use Rattle.std.specs.List.{list_any}
use Rattle.std.proofs.lemmas.Bool.{cases_Bool}
use Rattle.std.proofs.lemmas.List.Folds.{list_any-append}
use Rattle.muen_num.specs.Range.{numbers_below}

abbrev passes : {X : Type 0} → (X → Bool) → Option X → Bool
passes test None = false
passes test (Some x) = test x

pub none_of : {X : Type 0} (test : X → Bool) (xs : List X) → ((k : ℕ) (x : X) → slice_get xs k ≡ Some x → test x ≡ false) → list_any test xs ≡ false
none_of test [] h = refl
none_of test (y ∷ ys) h = let e = h 0 y refl in rw e (none_of test ys (λ k x g. h (suc k) x g))

-- an element that passes
pub record IsAny {X : Type 0} (test : X → Bool) (xs : List X) : Type 0 where
  pub k : ℕ
  pub x : X
  pub here : slice_get xs k ≡ Some x
  pub passes : test x ≡ true

pub some_of : {X : Type 0} (test : X → Bool) (xs : List X) → list_any test xs ≡ true → IsAny test xs
some_of test [] h = absurd (cc)
some_of test (y ∷ ys) h = elim (cases_Bool (test y)) [
  | inl e ↦ record { k = 0; x = y; here = refl; passes = e }
  | inr e ↦ let r = some_of test ys (rw e at h) in record { k = suc r.k; x = r.x; here = r.here; passes = r.passes }
]

pub none_below : (test : ℕ → Bool) (n : ℕ) → ((k : ℕ) → k < n → test k ≡ false) → list_any test (numbers_below n) ≡ false
none_below test zero h = refl
none_below test (suc n) h =
    let a = none_below test n (λ k l. h k (omega (arith, l))) in
    let b = h n (omega arith) in
    list_any-append test (numbers_below n) (n ∷ []) ∙ rw (a, b) refl
