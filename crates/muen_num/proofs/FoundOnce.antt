-- The window that holds an address, where no two share one: in whatever order the windows are.
use Rattle.std.proofs.Common.{◌≡◌, suc, All, Bool, true, false, cond, List, [], ◌∷◌, get_or, Some, None, refl, sym, ap, ◌∙◌, arith, inl, inr}
use Rattle.std.specs.Prelude.{◌||◌}
use Rattle.std.specs.List.{AllPairs, Contains, find, list_any}
use Rattle.std.specs.List.Sorted.{IsPermutation}
use Rattle.std.proofs.lemmas.Bool.{cases_Bool}
use Rattle.std.proofs.lemmas.List.Elements.{All-cons, All-contains, All-contains_itself, All-head, All-nil, All-tail}
use Rattle.std.proofs.lemmas.List.Sorted.{Contains-permutation, list_any-IsPermutation}
use Rattle.muen_num.proofs.Lists.{found}

module _ {X : Type 0} (test : X → Bool) where
  -- that one of two doesn't pass
  abbrev pub ArePassedOnce : List X → Type 0
  ArePassedOnce xs = AllPairs (λ a b. test a ≡ true → test b ≡ true → ⊥) xs

  none : (xs : List X) → list_any test xs ≡ false → find test xs ≡ None
  none [] h = refl
  none (x ∷ xs) h = elim (cases_Bool (test x)) [
    | inl passes ↦ let both : true ≡ false = sym (ap (λ b. b || list_any test xs) passes) ∙ h in absurd (cc)
    | inr fails ↦ ap (λ b. cond b (Some x) (find test xs)) fails ∙ none xs (sym (ap (λ b. b || list_any test xs) fails) ∙ h)
  ]

  -- whatever passes is what is found
  only : (xs : List X) → ArePassedOnce xs → (z : X) → find test xs ≡ Some z → All (λ x. test x ≡ true → x ≡ z) xs
  only [] once z e = All-nil (λ x. test x ≡ true → x ≡ z)
  only (x ∷ xs) once z e = elim (cases_Bool (test x)) [
    | inl passes ↦
        let is : Some x ≡ Some z = sym (ap (λ b. cond b (Some x) (find test xs)) passes) ∙ e in
        let same : x ≡ z = cc in
        All-cons (λ x. test x ≡ true → x ≡ z) x xs (λ p. same) (λ j d l p. absurd (once 0 (suc j) d (omega arith) (omega (arith, l)) passes p))
    | inr fails ↦
        All-cons (λ x. test x ≡ true → x ≡ z) x xs
        (λ p. let both : true ≡ false = sym p ∙ fails in absurd (cc))
        (only xs (λ i j d l k. once (suc i) (suc j) d (omega (arith, l)) (omega (arith, k))) z (sym (ap (λ b. cond b (Some x) (find test xs)) fails) ∙ e))
  ]

  -- and is found in whatever order
  one : (xs : List X) (z : X) → All (λ x. test x ≡ true → x ≡ z) xs → list_any test xs ≡ true → find test xs ≡ Some z
  one [] z all any = absurd (cc)
  one (x ∷ xs) z all any = elim (cases_Bool (test x)) [
    | inl passes ↦ ap (λ b. cond b (Some x) (find test xs)) passes ∙ ap Some (All-head (λ x. test x ≡ true → x ≡ z) x xs all passes)
    | inr fails ↦
        ap (λ b. cond b (Some x) (find test xs)) fails
        ∙ one xs z (All-tail (λ x. test x ≡ true → x ≡ z) x xs all) (sym (ap (λ b. b || list_any test xs) fails) ∙ any)
  ]

  pub found_permuted : (xs ys : List X) → IsPermutation xs ys → ArePassedOnce ys → find test xs ≡ find test ys
  found_permuted xs ys moved once =
      let same : list_any test xs ≡ list_any test ys = list_any-IsPermutation test xs ys moved in
      elim (cases_Bool (list_any test ys)) [
        | inl some ↦
            let z = found test ys some in
            let all = only ys once z.item z.is in
            let each : All (λ x. test x ≡ true → x ≡ z.item) xs = λ i d l.
            All-contains (λ x. test x ≡ true → x ≡ z.item) ys (get_or xs i d) all (Contains-permutation xs ys (get_or xs i d) moved (All-contains_itself xs i d l)) in
            one xs z.item each (same ∙ some) ∙ sym z.is
        | inr fails ↦ none xs (same ∙ fails) ∙ sym (none ys fails)
      ]

  -- what is found is one of the list
  pub found_contained : (xs : List X) (z : X) → find test xs ≡ Some z → Contains xs z
  found_contained [] z e = absurd (cc)
  found_contained (x ∷ xs) z e = elim (cases_Bool (test x)) [
    | inl passes ↦
        let is : Some x ≡ Some z = sym (ap (λ b. cond b (Some x) (find test xs)) passes) ∙ e in
        let same : x ≡ z = cc in
        (0, omega arith, same)
    | inr fails ↦
        let c = found_contained xs z (sym (ap (λ b. cond b (Some x) (find test xs)) fails) ∙ e) in
        (suc c.0, omega (arith, c.1), c.2)
  ]
