-- What is told of each element of a list, and of the first that passes.
use Rattle.std.proofs.Common.{◌≡◌, ℕ, zero, suc, Bool, true, false, cond, List, [], ◌∷◌, length, map, Option, Some, None, refl, sym, ap, ◌∙◌, arith}
use Rattle.std.specs.Prelude.{◌==◌, is_some, option_and_then, option_map, slice_get}
use Rattle.std.specs.Option.{option_map_or}
use Rattle.std.specs.List.{cons_option, filter_map, find, flat_map, list_all}
use Rattle.std.proofs.lemmas.Bool.{and_from, and_parts}
use Rattle.std.proofs.lemmas.List.Concat.{length-flat_map}
use Rattle.muen_num.specs.Search.{first_in}
use Rattle.muen_num.proofs.Lists.{all_true}
use Rattle.muen_num.proofs.SameAnswers.{sum_by_same}
use Rattle.muen_num.proofs.SearchLaws.{none_both}

-- ---- each passes

-- each that stands at an index
pub all_at : {X : Type 0} (t : X → Bool) (xs : List X) → ((k : ℕ) (x : X) → slice_get xs k ≡ Some x → t x ≡ true) → list_all t xs ≡ true
all_at t [] h = refl
all_at t (x ∷ xs) h = and_from (t x) (list_all t xs) (h 0 x refl) (all_at t xs (λ k y e. h (suc k) y e))

-- where nothing is found among images, nothing is found at one
pub none_there : {X Y O : Type 0} (at : Y → Option O) (f : X → Y) (xs : List X) (k : ℕ) (x : X) → first_in at (map f xs) ≡ None → slice_get xs k ≡ Some x → at (f x) ≡ None
none_there at f [] k x h e = absurd (cc)
none_there at f (y ∷ ys) zero x h e = let same : y ≡ x = cc in ap (λ z. at (f z)) (sym same) ∙ (none_both (at (f y)) (first_in at (map f ys)) h).0
none_there at f (y ∷ ys) (suc k) x h e = none_there at f ys k x (none_both (at (f y)) (first_in at (map f ys)) h).1 e

-- ---- one at least

-- of two lists of lists, as long each, one is as long as the other
pub lengths_same : {X Y Z : Type 0} (f : X → List Y) (g : X → List Z) → ((x : X) → length (f x) ≡ length (g x)) → (xs : List X) → length (flat_map f xs) ≡ length (flat_map g xs)
lengths_same f g same xs =
    length-flat_map f xs ∙ sum_by_same (λ x. length (f x)) (λ x. length (g x)) (λ _. true) (λ x _. same x) xs (all_true xs) ∙ sym (length-flat_map g xs)

pub first_there : {Y Z : Type 0} (xs : List Y) (ys : List Z) → length xs ≡ length ys → (length xs == 1) ≡ true → is_some (slice_get ys 0) ≡ true
first_there xs [] same one = absurd (true_not_one (length xs) same one)
  where
    true_not_one : (n : ℕ) → n ≡ 0 → (n == 1) ≡ true → ⊥
    true_not_one zero e h = cc
    true_not_one (suc n) e h = omega (arith, e)
first_there xs (y ∷ ys) same one = refl

-- ---- the first that passes

module _ {X Y E R : Type 0} (by : Y → Bool) (n : X → Y) (item : X → Option E) (test : E → Bool) (from : Y → Option R) (f : E → R) where
  step : (o : Option E) (b : Bool) (y : Y) (found : Option Y) (rest : List E) → option_map_or test o b ≡ b → (b ≡ true → is_some o ≡ true) → (b ≡ true → from y ≡ option_map f o)
      → option_and_then from found ≡ option_map f (find test rest) → option_and_then from (cond b (Some y) found) ≡ option_map f (find test (cons_option o rest))
  step None true y found rest passes some is same = absurd (let e = some refl in cc)
  step None false y found rest passes some is same = same
  step (Some e) true y found rest passes some is same = is refl ∙ ap (λ b. option_map f (cond b (Some e) (find test rest))) (sym passes)
  step (Some e) false y found rest passes some is same = same ∙ ap (λ b. option_map f (cond b (Some e) (find test rest))) (sym passes)

  -- what is told of the first that passes, where each that passes has an item
  pub found_filtered : (ok : X → Bool) → ((x : X) → ok x ≡ true → option_map_or test (item x) (by (n x)) ≡ by (n x))
      → ((x : X) → ok x ≡ true → by (n x) ≡ true → is_some (item x) ≡ true)
      → ((x : X) → ok x ≡ true → by (n x) ≡ true → from (n x) ≡ option_map f (item x))
      → (xs : List X) → list_all ok xs ≡ true → option_and_then from (find by (map n xs)) ≡ option_map f (find test (filter_map item xs))
  found_filtered ok passes some is [] all = refl
  found_filtered ok passes some is (x ∷ xs) all =
      let parts = and_parts (ok x) (list_all ok xs) all in
      step (item x) (by (n x)) (n x) (find by (map n xs)) (filter_map item xs) (passes x parts.0) (some x parts.0) (is x parts.0) (found_filtered ok passes some is xs parts.1)
