-- Lists joined by number, and sums over numbers.
use Rattle.std.proofs.Common.{◌≡◌, inl, inr, ℕ, zero, suc, ◌+◌, ◌*◌, ◌<◌, ◌≤◌, Bool, true, false, cond, List, [], ◌∷◌, ◌++◌, length, get_or, take, drop, map, refl, sym, ap, ◌∙◌, arith, append_assoc, length-append}
use Rattle.std.specs.Prelude.{filter}
use Rattle.std.specs.List.{concat, flat_map, range_with_len, sum_by}
use Rattle.std.proofs.lemmas.Bool.{cases_Bool, cases_eq}
use Rattle.std.proofs.lemmas.List.{append-nil, get_or-map, get_or_default, length-map, map_push, same_lists, take_more}
use Rattle.std.proofs.lemmas.List.Concat.{concat_is, flat_map-append, length-flat_map}
use Rattle.std.proofs.lemmas.List.Sums.{sum_by_push}
use Rattle.std.proofs.lemmas.Option.{get_or_from_slice_get}
use Rattle.muen_num.proofs.NumbersBelow.{length_numbers, number_at}
use Rattle.muen_num.specs.Range.{numbers_below}

-- ---- sums over the numbers below a bound

pub sum_next : (f : ℕ → ℕ) (n : ℕ) → sum_by f (numbers_below (suc n)) ≡ sum_by f (numbers_below n) + f n
sum_next f n = sum_by_push f (numbers_below n) n

pub sum_rises : (f : ℕ → ℕ) (n m : ℕ) → n < m → sum_by f (numbers_below n) + f n ≤ sum_by f (numbers_below m)
sum_rises f n zero l = absurd (omega arith)
sum_rises f n (suc m) l =
    let next = sum_next f m in
    elim (cases_eq n m) [
      | inl e ↦
          let same : sum_by f (numbers_below n) + f n ≡ sum_by f (numbers_below m) + f m = ap (λ k. sum_by f (numbers_below k) + f k) e in
          omega (arith, next, same)
      | inr ne ↦ let before = sum_rises f n m (omega arith) in omega (arith, next, before)
    ]

pub sum_grows : (f : ℕ → ℕ) (n m : ℕ) → n ≤ m → sum_by f (numbers_below n) ≤ sum_by f (numbers_below m)
sum_grows f n m l =
    elim (cases_eq n m) [
      | inl e ↦ let same = ap (λ k. sum_by f (numbers_below k)) e in omega (arith, same)
      | inr ne ↦ let more = sum_rises f n m (omega arith) in omega (arith, more)
    ]

-- the same at each number
pub sum_same : (f g : ℕ → ℕ) (n : ℕ) → ((k : ℕ) → k < n → f k ≡ g k) → sum_by f (numbers_below n) ≡ sum_by g (numbers_below n)
sum_same f g zero h = refl
sum_same f g (suc n) h =
    let a = sum_next f n in
    let b = sum_next g n in
    let before = sum_same f g n (λ k l. h k (omega arith)) in
    let here = h n (omega arith) in
    omega (arith, a, b, before, here)

-- of multiples
pub sum_times : (f : ℕ → ℕ) (c n : ℕ) → sum_by (λ k. c * f k) (numbers_below n) ≡ c * sum_by f (numbers_below n)
sum_times f c zero = omega arith
sum_times f c (suc n) =
    let a = sum_next f n in
    let b = sum_next (λ k. c * f k) n in
    let before = sum_times f c n in
    omega (arith, ap (λ k. c * k) a, b, before)

pub sum_constant : (c n : ℕ) → sum_by (λ k. c) (numbers_below n) ≡ c * n
sum_constant c zero = omega arith
sum_constant c (suc n) =
    let a = sum_next (λ k. c) n in
    let before = sum_constant c n in
    omega (arith, a, before)

-- ---- a part of lists that are joined

-- the n bytes from o on
abbrev pub part_of : {X : Type 0} → List X → ℕ → ℕ → List X
part_of xs o n = take n (drop o xs)

pub drop_over : {X : Type 0} (xs ys : List X) (o : ℕ) → drop (length xs + o) (xs ++ ys) ≡ drop o ys
drop_over [] ys o = let e : 0 + o ≡ o = omega arith in ap (λ k. drop k ys) e
drop_over (x ∷ xs) ys o =
    let e : length (x ∷ xs) + o ≡ suc (length xs + o) = omega arith in
    ap (λ k. drop k (x ∷ xs ++ ys)) e ∙ drop_over xs ys o

-- of the second list
pub part_right : {X : Type 0} (xs ys : List X) (a o n : ℕ) → length xs ≡ a → part_of (xs ++ ys) (a + o) n ≡ part_of ys o n
part_right xs ys a o n e = ap (λ k. take n (drop (k + o) (xs ++ ys))) (sym e) ∙ ap (take n) (drop_over xs ys o)

-- of the first
pub part_left : {X : Type 0} (xs ys : List X) (o n : ℕ) → o + n ≤ length xs → part_of (xs ++ ys) o n ≡ part_of xs o n
part_left [] ys zero zero l = refl
part_left [] ys zero (suc n) l = absurd (omega arith)
part_left [] ys (suc o) n l = absurd (omega arith)
part_left (x ∷ xs) ys zero zero l = refl
part_left (x ∷ xs) ys zero (suc n) l = ap (λ zs. x ∷ zs) (part_left xs ys zero n (omega arith))
part_left (x ∷ xs) ys (suc o) n l = part_left xs ys o n (omega arith)

-- of the list of a number
pub part_at : {X : Type 0} (f : ℕ → List X) (m i o n : ℕ) → i < m → o + n ≤ length (f i)
    → part_of (flat_map f (numbers_below m)) (sum_by (λ k. length (f k)) (numbers_below i) + o) n ≡ part_of (f i) o n
part_at f zero i o n l k = absurd (omega arith)
part_at {X} f (suc m) i o n l k =
    let size : ℕ → ℕ = λ k. length (f k) in
    let front = flat_map f (numbers_below m) in
    let many : length front ≡ sum_by size (numbers_below m) = length-flat_map f (numbers_below m) in
    let joined : flat_map f (numbers_below (suc m)) ≡ front ++ f m =
    flat_map-append f (numbers_below m) (m ∷ []) ∙ ap (λ t. front ++ t) (append-nil (f m)) in
    ap (λ t. part_of t (sum_by size (numbers_below i) + o) n) joined
    ∙ elim (cases_eq i m) as (λ _. part_of (front ++ f m) (sum_by size (numbers_below i) + o) n ≡ part_of (f i) o n) [
      | inl e ↦
          let here : length front ≡ sum_by size (numbers_below i) = many ∙ ap (λ j. sum_by size (numbers_below j)) (sym e) in
          part_right front (f m) (sum_by size (numbers_below i)) o n here ∙ ap (λ j. part_of (f j) o n) (sym e)
      | inr ne ↦
          let before : i < m = omega arith in
          let room = sum_rises size i m before in
          part_left front (f m) (sum_by size (numbers_below i) + o) n (omega (arith, room, many, k)) ∙ part_at f m i o n before k
    ]

-- ---- lists of those numbers alone that pass

-- nothing where the number doesn't
abbrev pub where_passes : {X : Type 0} → (ℕ → Bool) → (ℕ → List X) → ℕ → List X
where_passes p f k = cond (p k) (f k) []

pub flat_filter : {X : Type 0} (p : ℕ → Bool) (f : ℕ → List X) (ks : List ℕ) → flat_map f (filter p ks) ≡ flat_map (where_passes p f) ks
flat_filter p f [] = refl
flat_filter p f (k ∷ ks) =
    elim (p k) as (λ b. flat_map f (cond b (k ∷ filter p ks) (filter p ks)) ≡ cond b (f k) [] ++ flat_map (where_passes p f) ks) [
      | true ↦ ap (λ t. f k ++ t) (flat_filter p f ks)
      | false ↦ flat_filter p f ks
    ]

-- one element more
pub filter_push : {X : Type 0} (p : X → Bool) (xs : List X) (y : X) → filter p (xs ++ y ∷ []) ≡ filter p xs ++ cond (p y) (y ∷ []) []
filter_push p [] y = refl
filter_push p (x ∷ xs) y =
    elim (p x) as (λ b. cond b (x ∷ filter p (xs ++ y ∷ [])) (filter p (xs ++ y ∷ [])) ≡ cond b (x ∷ filter p xs) (filter p xs) ++ cond (p y) (y ∷ []) []) [
      | true ↦ ap (λ t. x ∷ t) (filter_push p xs y)
      | false ↦ filter_push p xs y
    ]

-- where each that passes has so many elements
pub filter_sizes : {X : Type 0} (p : ℕ → Bool) (f : ℕ → List X) (c : ℕ) → ((k : ℕ) → length (f k) ≡ c) → (n : ℕ)
    → sum_by (λ k. length (where_passes p f k)) (numbers_below n) ≡ c * length (filter p (numbers_below n))
filter_sizes p f c each zero = omega arith
filter_sizes {X} p f c each (suc n) =
    let size : ℕ → ℕ = λ k. length (where_passes p f k) in
    let before = filter_sizes p f c each n in
    let next = sum_next size n in
    let more = filter_push p (numbers_below n) n in
    elim (cases_Bool (p n)) [
      | inl passes ↦
          let here : length (where_passes p f n) ≡ c = ap (λ b. length (cond b (f n) [])) passes ∙ each n in
          let longer : length (filter p (numbers_below (suc n))) ≡ length (filter p (numbers_below n)) + 1 = ap length more ∙ ap (λ b. length (filter p (numbers_below n) ++ cond b (n ∷ []) [])) passes ∙ length-append (filter p (numbers_below n)) (n ∷ []) in
          omega (arith, before, next, here, ap (λ k. c * k) longer)
      | inr fails ↦
          let here : length (where_passes p f n) ≡ 0 = ap (λ b. length (cond b (f n) [])) fails in
          let same : length (filter p (numbers_below (suc n))) ≡ length (filter p (numbers_below n)) = ap length more ∙ ap (λ b. length (filter p (numbers_below n) ++ cond b (n ∷ []) [])) fails ∙ ap length (append-nil (filter p (numbers_below n))) in
          omega (arith, before, next, here, ap (λ k. c * k) same)
    ]

-- ---- lists by number

flat_mapped : {X Y Z : Type 0} (g : X → Y) (f : Y → List Z) (xs : List X) → flat_map f (map g xs) ≡ flat_map (λ x. f (g x)) xs
flat_mapped g f [] = refl
flat_mapped g f (x ∷ xs) = ap (λ t. f (g x) ++ t) (flat_mapped g f xs)

-- its elements by number
pub listed : {X : Type 0} (xs : List X) (d : X) (n : ℕ) → length xs ≡ n → xs ≡ map (λ k. get_or xs k d) (numbers_below n)
listed xs d n e =
    let f = λ (k : ℕ). get_or xs k d in
    let many : length (map f (numbers_below n)) ≡ n = length-map (numbers_below n) f ∙ length_numbers n in
    same_lists xs (map f (numbers_below n)) (omega (arith, e, many))
    (λ k c l.
    let l2 : k < length (numbers_below n) = omega (arith, e, length_numbers n) in
    get_or_default xs k c d l
    ∙ sym (get_or-map f (numbers_below n) k 0 c l2 ∙ ap f (get_or_from_slice_get (numbers_below n) k k 0 (number_at n k (omega (arith, e))))))

-- lists that are joined, by their numbers
pub concat_numbered : (xss : List (List ℕ)) (n : ℕ) → length xss ≡ n → concat xss ≡ flat_map (λ k. get_or xss k []) (numbers_below n)
concat_numbered xss n e =
    concat_is xss ∙ ap (flat_map (λ x. x)) (listed xss [] n e) ∙ flat_mapped (λ k. get_or xss k []) (λ x. x) (numbers_below n)

-- ---- one element more

pub concat-append : (xss yss : List (List ℕ)) → concat (xss ++ yss) ≡ concat xss ++ concat yss
concat-append [] yss = refl
concat-append (xs ∷ xss) yss = ap (λ t. xs ++ t) (concat-append xss yss) ∙ sym (append_assoc xs (concat xss) (concat yss))

-- a list of lists of which the first i are joined
pub concat_more : (xss : List (List ℕ)) (i : ℕ) (d : List ℕ) → i < length xss → concat (take (i + 1) xss) ≡ concat (take i xss) ++ get_or xss i d
concat_more xss i d l =
    ap concat (take_more xss i d l) ∙ (concat-append (take i xss) (get_or xss i d ∷ []) ∙ ap (λ t. concat (take i xss) ++ t) (append-nil (get_or xss i d)))

-- the numbers of a range
range_more : (a n : ℕ) → range_with_len a (suc n) ≡ range_with_len a n ++ (a + n) ∷ []
range_more a zero = let same : a ≡ a + 0 = omega arith in ap (λ k. k ∷ []) same
range_more a (suc n) =
    let same : a + 1 + n ≡ a + suc n = omega arith in
    ap (λ t. a ∷ t) (range_more (a + 1) n ∙ ap (λ k. range_with_len (a + 1) n ++ k ∷ []) same)

pub range_is : (n : ℕ) → range_with_len 0 n ≡ numbers_below n
range_is zero = refl
range_is (suc n) = let same : 0 + n ≡ n = omega arith in range_more 0 n ∙ (λ i. range_is n i ++ same i ∷ [])

-- the numbers below one more
pub numbers_next : (n m : ℕ) → m ≡ n + 1 → numbers_below m ≡ numbers_below n ++ n ∷ []
numbers_next n m e = let next : m ≡ suc n = omega arith in ap numbers_below next

pub flat_numbers : {X : Type 0} (f : ℕ → List X) (n m : ℕ) → m ≡ n + 1 → flat_map f (numbers_below m) ≡ flat_map f (numbers_below n) ++ f n
flat_numbers f n m e =
    ap (flat_map f) (numbers_next n m e) ∙ (flat_map-append f (numbers_below n) (n ∷ []) ∙ ap (λ t. flat_map f (numbers_below n) ++ t) (append-nil (f n)))

-- those of them that pass
pub filter_passes_next : (p : ℕ → Bool) (n m : ℕ) → m ≡ n + 1 → p n ≡ true → filter p (numbers_below m) ≡ filter p (numbers_below n) ++ n ∷ []
filter_passes_next p n m e h = ap (filter p) (numbers_next n m e) ∙ (filter_push p (numbers_below n) n ∙ ap (λ b. filter p (numbers_below n) ++ cond b (n ∷ []) []) h)

pub filter_fails_next : (p : ℕ → Bool) (n m : ℕ) → m ≡ n + 1 → p n ≡ false → filter p (numbers_below m) ≡ filter p (numbers_below n)
filter_fails_next p n m e h =
    ap (filter p) (numbers_next n m e)
    ∙ (filter_push p (numbers_below n) n ∙ (ap (λ b. filter p (numbers_below n) ++ cond b (n ∷ []) []) h ∙ append-nil (filter p (numbers_below n))))

-- ---- steps of loops

pub flat_step : {X : Type 0} (f : ℕ → List X) (n m : ℕ) (front old new : List X) → m ≡ n + 1 → old ≡ front ++ flat_map f (numbers_below n) → new ≡ old ++ f n → new ≡ front ++ flat_map f (numbers_below m)
flat_step f n m front old new e before more =
    more ∙ (ap (λ t. t ++ f n) before ∙ (append_assoc front (flat_map f (numbers_below n)) (f n) ∙ ap (λ t. front ++ t) (sym (flat_numbers f n m e))))

pub filter_step : {X : Type 0} (p : ℕ → Bool) (f : ℕ → List X) (n m : ℕ) (front old new : List X) → m ≡ n + 1 → p n ≡ true → old ≡ front ++ flat_map f (filter p (numbers_below n)) → new ≡ old ++ f n → new ≡ front ++ flat_map f (filter p (numbers_below m))
filter_step p f n m front old new e h before more =
    let ks = filter p (numbers_below n) in
    let next : flat_map f (filter p (numbers_below m)) ≡ flat_map f ks ++ f n =
    ap (flat_map f) (filter_passes_next p n m e h) ∙ (flat_map-append f ks (n ∷ []) ∙ ap (λ t. flat_map f ks ++ t) (append-nil (f n))) in
    more ∙ (ap (λ t. t ++ f n) before ∙ (append_assoc front (flat_map f ks) (f n) ∙ ap (λ t. front ++ t) (sym next)))

pub filter_stays : {X : Type 0} (p : ℕ → Bool) (f : ℕ → List X) (n m : ℕ) (front old : List X) → m ≡ n + 1 → p n ≡ false → old ≡ front ++ flat_map f (filter p (numbers_below n)) → old ≡ front ++ flat_map f (filter p (numbers_below m))
filter_stays p f n m front old e h before = before ∙ ap (λ ks. front ++ flat_map f ks) (sym (filter_fails_next p n m e h))

pub concat_step : (xss : List (List ℕ)) (i : ℕ) (x front old new : List ℕ) → i < length xss → x ≡ get_or xss i x → old ≡ front ++ concat (take i xss) → new ≡ old ++ x → new ≡ front ++ concat (take (i + 1) xss)
concat_step xss i x front old new l is before more =
    more ∙ ((λ j. before j ++ is j) ∙ (append_assoc front (concat (take i xss)) (get_or xss i x) ∙ ap (λ t. front ++ t) (sym (concat_more xss i x l))))

pub map_step : {X : Type 0} (f : ℕ → X) (n m : ℕ) (old new : List X) → m ≡ n + 1 → old ≡ map f (numbers_below n) → new ≡ old ++ f n ∷ [] → new ≡ map f (numbers_below m)
map_step f n m old new e before more = more ∙ (ap (λ t. t ++ f n ∷ []) before ∙ (sym (map_push f (numbers_below n) n) ∙ ap (map f) (sym (numbers_next n m e))))

pub filter_fits_numbers : (p : ℕ → Bool) (n m : ℕ) → n ≤ m → length (filter p (numbers_below n)) ≤ length (filter p (numbers_below m))
filter_fits_numbers p n zero l = let e : n ≡ 0 = omega arith in let same = ap (λ k. length (filter p (numbers_below k))) e in omega arith
filter_fits_numbers p n (suc m) l =
    elim (cases_eq n (suc m)) [
      | inl e ↦ let same = ap (λ k. length (filter p (numbers_below k))) e in omega arith
      | inr ne ↦
          let before = filter_fits_numbers p n m (omega arith) in
          let more = ap length (filter_push p (numbers_below m) m) ∙ length-append (filter p (numbers_below m)) (cond (p m) (m ∷ []) []) in
          omega arith
    ]

-- what is read at an index
pub index_is : {X : Type 0} (xs ys : List X) (n : ℕ) (x d : X) → x ≡ get_or xs n x → xs ≡ ys → n < length ys → x ≡ get_or ys n d
index_is xs ys n x d is same l = is ∙ (ap (λ zs. get_or zs n x) same ∙ get_or_default ys n x d l)

pub length_pushed : {X : Type 0} (xs : List X) (x : X) → length (xs ++ x ∷ []) ≡ length xs + 1
length_pushed xs x = length-append xs (x ∷ [])
