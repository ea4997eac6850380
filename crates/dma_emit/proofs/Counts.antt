-- The tables of all domains take far fewer pages than a file may have: a region has one window at most, and one of n bytes
-- touches n / S + 2 ranges of S bytes at most.
use Rattle.std.proofs.Common.{◌≡◌, inl, inr, ℕ, zero, suc, ◌+◌, ◌-◌, ◌*◌, ◌/◌, ◌^◌, ◌<◌, ◌≤◌, min, All, Bool, true, false, cond, not, List, [], ◌∷◌, Some, refl, sym, ap, ◌∙◌, arith}
use Rattle.std.specs.Prelude.{◌||◌, filter, nat_lt}
use Rattle.std.specs.List.{AllPairs, find, sum_by}
use Rattle.std.specs.Option.{option_map_or}
use Rattle.std.specs.Str.{bytes_eq}
use Rattle.std.proofs.Math.Nat.{div-lt_iff_lt-mul, lt-mul-div-succ, lt_of_mul-lt-mul_left}
use Rattle.std.proofs.lemmas.Bool.{and_parts, cases_Bool, ltb-true, not-true, true≢false}
use Rattle.std.proofs.lemmas.List.Elements.{All-head, All-tail, filter_passes}
use Rattle.std.proofs.lemmas.List.Filters.{sum_by-filter_both}
use Rattle.std.proofs.lemmas.List.Kept.{AllPairs-filter}
use Rattle.std.proofs.lemmas.List.Sums.{sum_by-cons, sum_by-le-sum_by}
use Rattle.std.proofs.lemmas.Slice.Eq.{bytes_eq-Decides}
use Rattle.muen_num.proofs.Lookups.{same_self}
use Rattle.ept_emit.specs.Pages.{count, ept_pages, is_taken, one, touches}
use Rattle.ept_emit.specs.declared.window.GuestRange.{GuestRange}
use Rattle.span_emit.proofs.PairLaws.{pairs_head}

-- ---- tables of ranges

-- a test that passes between two numbers alone
count_between : (p : ℕ → Bool) (a e n : ℕ) → ((v : ℕ) → p v ≡ true → (a ≤ v) × (v < e)) → count p 0 n ≤ min n e - a
unfolding count
count_between p a e zero h = omega arith
count_between p a e (suc n) h =
    let before = count_between p a e n h in
    elim (cases_Bool (p (0 + n))) [
      | inl passes ↦
          let here = ap one passes in
          let within = h (0 + n) passes in
          omega (arith, within.0, within.1)
      | inr fails ↦ let here = ap one fails in omega arith
    ]

one_or : (b c : Bool) → one (b || c) ≤ one b + one c
one_or true c = omega arith
one_or false c = omega arith

count_or : (p q : ℕ → Bool) (lo n : ℕ) → count (λ v. p v || q v) lo n ≤ count p lo n + count q lo n
unfolding count
count_or p q lo zero = omega arith
count_or p q lo (suc n) =
    let before = count_or p q lo n in
    let here = one_or (p (lo + n)) (q (lo + n)) in
    omega arith

count_none : (lo n : ℕ) → count (λ v. false) lo n ≡ 0
unfolding count
count_none lo zero = refl
count_none lo (suc n) = let before = count_none lo n in omega arith

-- the ranges of so many bytes that a range touches
abbrev touched_by : ℕ → GuestRange → ℕ → Bool
touched_by size r v = touches r (size * v) size

begins : (size a v : ℕ) → 0 < size → a < size * v + size → a / size ≤ v
begins size a v some l = let below : a / size < v + 1 = (div-lt_iff_lt-mul some).1 (omega (arith, l)) in omega arith

ends : (size a b v : ℕ) → 0 < size → size * v < a + b → v < a / size + b / size + 2
ends size a b v some l =
    let first = lt-mul-div-succ a some in
    let second = lt-mul-div-succ b some in
    lt_of_mul-lt-mul_left size (omega (arith, l, first, second))

few_touched : (size : ℕ) → 0 < size → (n : ℕ) (r : GuestRange) → count (touched_by size r) 0 n ≤ r.size / size + 2
few_touched size some n r =
    let few = count_between (touched_by size r) (r.guest / size) (r.guest / size + r.size / size + 2) n (λ v passes.
    let both = and_parts (nat_lt r.guest (size * v + size)) (nat_lt (size * v) (r.guest + r.size)) passes in
    let low = ltb-true r.guest (size * v + size) both.0 in
    let high = ltb-true (size * v) (r.guest + r.size) both.1 in
    (begins size r.guest v some low, ends size r.guest r.size v some high)) in
    omega arith

-- how many tables a range of so many bytes needs at most
abbrev pub tables_for : ℕ → ℕ
tables_for size = size / 2 ^ 39 + size / 2 ^ 30 + size / 2 ^ 21 + 6

few_taken : (size n : ℕ) (weight : GuestRange → ℕ) → ((r : GuestRange) → count (touched_by size r) 0 n ≤ weight r) → (rs : List GuestRange) → count (is_taken rs size) 0 n ≤ sum_by weight rs
few_taken size n weight each [] = let none = count_none 0 n in omega arith
few_taken size n weight each (r ∷ rs) =
    let both = count_or (touched_by size r) (is_taken rs size) 0 n in
    let here = each r in
    let rest = few_taken size n weight each rs in
    let sum = sum_by-cons weight r rs in
    omega arith

sum_three : (f g h : GuestRange → ℕ) (rs : List GuestRange) → sum_by (λ r. f r + g r + h r) rs ≡ sum_by f rs + sum_by g rs + sum_by h rs
sum_three f g h [] = refl
sum_three f g h (r ∷ rs) =
    let a = sum_by-cons f r rs in
    let b = sum_by-cons g r rs in
    let c = sum_by-cons h r rs in
    let all = sum_by-cons (λ r. f r + g r + h r) r rs in
    let rest = sum_three f g h rs in
    omega arith

-- the tables of ranges
pub few_tables : (rs : List GuestRange) → ept_pages rs ≤ 1 + sum_by (λ r. tables_for r.size) rs
few_tables rs =
    let great = few_taken (2 ^ 39) (2 ^ 9) (λ r. r.size / 2 ^ 39 + 2) (few_touched (2 ^ 39) (omega arith) (2 ^ 9)) rs in
    let middle = few_taken (2 ^ 30) (2 ^ 18) (λ r. r.size / 2 ^ 30 + 2) (few_touched (2 ^ 30) (omega arith) (2 ^ 18)) rs in
    let small = few_taken (2 ^ 21) (2 ^ 27) (λ r. r.size / 2 ^ 21 + 2) (few_touched (2 ^ 21) (omega arith) (2 ^ 27)) rs in
    let three = sum_three (λ r. r.size / 2 ^ 39 + 2) (λ r. r.size / 2 ^ 30 + 2) (λ r. r.size / 2 ^ 21 + 2) rs in
    let all = sum_by-le-sum_by (λ (r : GuestRange). r.size / 2 ^ 39 + 2 + (r.size / 2 ^ 30 + 2) + (r.size / 2 ^ 21 + 2)) (λ (r : GuestRange). tables_for r.size) rs (λ r. omega arith) in
    omega arith

-- ---- a sum over what is found by names that differ

-- what is found by a name counts once
module _ {X Y : Type 0} (key : X → List ℕ) (name : Y → List ℕ) (weight : Y → ℕ) where
  abbrev pub Differ : X → X → Type 0
  Differ a b = bytes_eq (key a) (key b) ≡ false

  abbrev pub found_weight : List Y → X → ℕ
  found_weight ys x = option_map_or weight (find (λ y. bytes_eq (name y) (key x)) ys) 0

  -- one at most has this name
  one_here : (y : Y) (ys : List Y) (xs : List X) → AllPairs Differ xs → All (λ x. bytes_eq (name y) (key x) ≡ true) xs → sum_by (found_weight (y ∷ ys)) xs ≤ weight y
  one_here y ys [] apart here = omega arith
  one_here y ys (x ∷ []) apart here =
      let first = All-head (λ x. bytes_eq (name y) (key x) ≡ true) x [] here in
      let is : found_weight (y ∷ ys) x ≡ weight y = ap (λ b. option_map_or weight (cond b (Some y) (find (λ z. bytes_eq (name z) (key x)) ys)) 0) first in
      let sum = sum_by-cons (found_weight (y ∷ ys)) x [] in
      omega arith
  one_here y ys (x ∷ (z ∷ xs)) apart here =
      let first = (bytes_eq-Decides (name y) (key x)).0 (All-head (λ x. bytes_eq (name y) (key x) ≡ true) x (z ∷ xs) here) in
      let second = (bytes_eq-Decides (name y) (key z)).0 (All-head (λ x. bytes_eq (name y) (key x) ≡ true) z xs (All-tail (λ x. bytes_eq (name y) (key x) ≡ true) x (z ∷ xs) here)) in
      let differ : Differ x z = All-head (Differ x) z xs (pairs_head Differ x (z ∷ xs) apart) in
      let same : bytes_eq (key x) (key z) ≡ true = ap (bytes_eq (key x)) (sym second ∙ first) ∙ same_self (key x) in
      absurd (true≢false (sym same ∙ differ))

  none_here : (y : Y) (ys : List Y) (xs : List X) → All (λ x. not (bytes_eq (name y) (key x)) ≡ true) xs → sum_by (found_weight (y ∷ ys)) xs ≡ sum_by (found_weight ys) xs
  none_here y ys [] h = refl
  none_here y ys (x ∷ xs) h =
      let fails = not-true (bytes_eq (name y) (key x)) (All-head (λ x. not (bytes_eq (name y) (key x)) ≡ true) x xs h) in
      let is : found_weight (y ∷ ys) x ≡ found_weight ys x = ap (λ b. option_map_or weight (cond b (Some y) (find (λ z. bytes_eq (name z) (key x)) ys)) 0) fails in
      let rest = none_here y ys xs (All-tail (λ x. not (bytes_eq (name y) (key x)) ≡ true) x xs h) in
      let a = sum_by-cons (found_weight (y ∷ ys)) x xs in
      let b = sum_by-cons (found_weight ys) x xs in
      omega arith

  none_at_all : (xs : List X) → sum_by (found_weight []) xs ≡ 0
  none_at_all [] = refl
  none_at_all (x ∷ xs) = let rest = none_at_all xs in let sum = sum_by-cons (found_weight []) x xs in omega arith

  pub sum_found : (xs : List X) (ys : List Y) → AllPairs Differ xs → sum_by (found_weight ys) xs ≤ sum_by weight ys
  sum_found xs [] apart = let none = none_at_all xs in omega arith
  sum_found xs (y ∷ ys) apart =
      let p : X → Bool = λ x. bytes_eq (name y) (key x) in
      let q : X → Bool = λ x. not (bytes_eq (name y) (key x)) in
      let both = sum_by-filter_both p q (λ x. refl) (found_weight (y ∷ ys)) xs in
      let here = one_here y ys (filter p xs) (AllPairs-filter Differ p xs apart) (filter_passes p xs) in
      let others = none_here y ys (filter q xs) (filter_passes q xs) in
      let rest = sum_found (filter q xs) ys (AllPairs-filter Differ q xs apart) in
      let sum = sum_by-cons weight y ys in
      omega arith
