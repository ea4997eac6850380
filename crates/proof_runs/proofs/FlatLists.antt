-- Texts of lists, element by element: over numbers, over what is looked up, and over what is left out.
use Rattle.std.proofs.Common.{◌≡◌, ◌∙◌, refl, sym, ap, arith, append_assoc, ℕ, zero, suc, ◌≤◌, Bool, true, false, List, [], ◌∷◌, ◌++◌, length, map, take, cond, Option, Some, None}
use Rattle.std.specs.Prelude.{slice_get, option_map}
use Rattle.std.specs.List.{AllZip, cons_option, filter, filter_map, find, flat_map, zip}
use Rattle.std.proofs.Math.Seq.{take-length, take-suc}
use Rattle.std.proofs.lemmas.Grind.{flat_map-append}
use Rattle.std.proofs.lemmas.Option.{get_or_from_slice_get}
use Rattle.muen_num.proofs.Lists.{there}
use Rattle.muen_num.specs.Range.{numbers_below}

-- ---- numbers in turn

-- of the first k
flat_taken : {X Y : Type 0} (f : ℕ → List Y) (h : X → List Y) (xs : List X) → ((n : ℕ) (x : X) → slice_get xs n ≡ Some x → f n ≡ h x) → (k : ℕ) → k ≤ length xs → flat_map f (numbers_below k) ≡ flat_map h (take k xs)
flat_taken f h xs each zero l = refl
flat_taken f h xs each (suc k) l =
    let x = there xs k (omega (arith, l)) in
    let grown : take (suc k) xs ≡ take k xs ++ x.0 ∷ [] = take-suc xs k x.0 (omega (arith, l)) ∙ ap (λ y. take k xs ++ y ∷ []) (get_or_from_slice_get xs k x.0 x.0 x.1) in
    flat_map-append f (numbers_below k) (k ∷ [])
    ∙ ap (λ ys. ys ++ (f k ++ [])) (flat_taken f h xs each k (omega (arith, l)))
    ∙ ap (λ y. flat_map h (take k xs) ++ (y ++ [])) (each k x.0 x.1)
    ∙ sym (flat_map-append h (take k xs) (x.0 ∷ []))
    ∙ ap (flat_map h) (sym grown)

-- what is made of each number below the length is made of each element
pub flat_numbers : {X Y : Type 0} (f : ℕ → List Y) (h : X → List Y) (xs : List X) → ((n : ℕ) (x : X) → slice_get xs n ≡ Some x → f n ≡ h x) → flat_map f (numbers_below (length xs)) ≡ flat_map h xs
flat_numbers f h xs each = flat_taken f h xs each (length xs) (omega arith) ∙ ap (flat_map h) (take-length xs)

-- what is made of each element alike is alike
pub flat_same : {X Y : Type 0} (f g : X → List Y) → ((x : X) → f x ≡ g x) → (xs : List X) → flat_map f xs ≡ flat_map g xs
flat_same f g same [] = refl
flat_same f g same (x ∷ xs) = ap (λ ys. ys ++ flat_map f xs) (same x) ∙ ap (λ ys. g x ++ ys) (flat_same f g same xs)

-- ---- what is looked up

-- one that is looked up first
some_first : {Y Z : Type 0} (f : Option Y → List Z) → f None ≡ [] → (o : Option Y) (ys : List Y) (rest : List Z) → rest ≡ flat_map (λ y. f (Some y)) ys → f o ++ rest ≡ flat_map (λ y. f (Some y)) (cons_option o ys)
some_first f none None ys rest is = ap (λ zs. zs ++ rest) none ∙ is
some_first f none (Some y) ys rest is = ap (λ zs. f (Some y) ++ zs) is

-- where nothing is made of what isn't there, only what is there counts
pub flat_looked : {X Y Z : Type 0} (f : Option Y → List Z) (look : X → Option Y) → f None ≡ [] → (xs : List X) → flat_map (λ x. f (look x)) xs ≡ flat_map (λ y. f (Some y)) (filter_map look xs)
flat_looked f look none [] = refl
flat_looked f look none (x ∷ xs) = some_first f none (look x) (filter_map look xs) (flat_map (λ x. f (look x)) xs) (flat_looked f look none xs)

-- one that is tested first
first_if : {X Y : Type 0} (b : Bool) (x : X) (y : Y) (o : Option X) (q : Option (X × Y)) → o ≡ option_map (λ e. e.0) q → cond b (Some x) o ≡ option_map (λ e. e.0) (cond b (Some (x, y)) q)
first_if true x y o q h = refl
first_if false x y o q h = h

-- what is found in a list is found in it beside another as long
pub found_beside : {X Y : Type 0} (R : X → Y → Type 0) (test : X → Bool) (xs : List X) (ys : List Y) → AllZip R xs ys → find test xs ≡ option_map (λ e. e.0) (find (λ e. test e.0) (zip xs ys))
found_beside R test [] [] h = refl
found_beside R test [] (y ∷ ys) h = absurd h
found_beside R test (x ∷ xs) [] h = absurd h
found_beside R test (x ∷ xs) (y ∷ ys) h = first_if (test x) x y (find test xs) (find (λ e. test e.0) (zip xs ys)) (found_beside R test xs ys h.1)

-- ---- what is left out

-- one that is tested first, and what is made of the rest
kept_if : {X Y : Type 0} (f : X → List Y) (b : Bool) (x : X) (xs : List X) (rest : List Y) → (b ≡ false → f x ≡ []) → rest ≡ flat_map f xs → f x ++ rest ≡ flat_map f (cond b (x ∷ xs) xs)
kept_if f true x xs rest none is = ap (λ ys. f x ++ ys) is
kept_if f false x xs rest none is = ap (λ ys. ys ++ rest) (none refl) ∙ is

-- where nothing is made of what fails a test, only what passes it counts
pub flat_kept : {X Y : Type 0} (f : X → List Y) (test : X → Bool) → ((x : X) → test x ≡ false → f x ≡ []) → (xs : List X) → flat_map f xs ≡ flat_map f (filter test xs)
flat_kept f test none [] = refl
flat_kept f test none (x ∷ xs) = kept_if f (test x) x (filter test xs) (flat_map f xs) (none x) (flat_kept f test none xs)

-- ---- two passes

-- one pass makes the whole text of these, and the other none
pub record AllMadeBy {X Y : Type 0} (f g t : X → List Y) (xs : List X) : Type 0 where
  pub made : flat_map f xs ≡ flat_map t xs
  pub none : flat_map g xs ≡ []

module _ {X Y : Type 0} (f g t : X → List Y) where
  -- nothing is made of no elements
  pub no_items : AllMadeBy f g t []
  no_items = record { made = refl; none = refl }

  -- elements that are made of others, each by the first pass alone
  pub mapped_made : {K : Type 0} (h : K → X) → ((k : K) → f (h k) ≡ t (h k)) → ((k : K) → g (h k) ≡ []) → (ks : List K) → AllMadeBy f g t (map h ks)
  mapped_made h same none [] = no_items
  mapped_made h same none (k ∷ ks) =
      let more = mapped_made h same none ks in
      record {
        made = ap (λ ys. ys ++ flat_map f (map h ks)) (same k) ∙ ap (λ ys. t (h k) ++ ys) more.made;
        none = ap (λ ys. ys ++ flat_map g (map h ks)) (none k) ∙ more.none;
      }

  -- one list and another behind it
  pub joined_made : (xs zs : List X) → AllMadeBy f g t xs → AllMadeBy f g t zs → AllMadeBy f g t (xs ++ zs)
  joined_made xs zs a b = record {
    made = flat_map-append f xs zs ∙ ap (λ ys. ys ++ flat_map f zs) a.made ∙ ap (λ ys. flat_map t xs ++ ys) b.made ∙ sym (flat_map-append t xs zs);
    none = flat_map-append g xs zs ∙ ap (λ ys. ys ++ flat_map g zs) a.none ∙ b.none;
  }

  -- many lists, one behind the other
  pub each_made : {K : Type 0} (h : K → List X) → ((k : K) → AllMadeBy f g t (h k)) → (ks : List K) → AllMadeBy f g t (flat_map h ks)
  each_made h all [] = no_items
  each_made h all (k ∷ ks) = joined_made (h k) (flat_map h ks) (all k) (each_made h all ks)

  -- all that the first pass makes stands before what both make of the rest
  pub first_pass : (xs zs : List X) → AllMadeBy f g t xs → flat_map f zs ++ flat_map g zs ≡ flat_map t zs → flat_map f (xs ++ zs) ++ flat_map g (xs ++ zs) ≡ flat_map t (xs ++ zs)
  first_pass xs zs a rest =
      ap (λ ys. ys ++ flat_map g (xs ++ zs)) (flat_map-append f xs zs ∙ ap (λ ys. ys ++ flat_map f zs) a.made)
      ∙ ap (λ ys. (flat_map t xs ++ flat_map f zs) ++ ys) (flat_map-append g xs zs ∙ ap (λ ys. ys ++ flat_map g zs) a.none)
      ∙ append_assoc (flat_map t xs) (flat_map f zs) (flat_map g zs)
      ∙ ap (λ ys. flat_map t xs ++ ys) rest
      ∙ sym (flat_map-append t xs zs)

-- and at the end stands what the second makes
pub second_pass : {X Y : Type 0} (f g t : X → List Y) (xs : List X) → AllMadeBy g f t xs → flat_map f xs ++ flat_map g xs ≡ flat_map t xs
second_pass f g t xs a = ap (λ ys. ys ++ flat_map g xs) a.none ∙ a.made
