-- A word written among bytes.
use Rattle.std.proofs.Common.{◌≡◌, ◌≢◌, inl, inr, ℕ, zero, suc, ◌-◌, ◌*◌, ◌/◌, ◌%◌, ◌^◌, List, length, take, drop, replicate, refl, ap, ◌∙◌, arith}
use Rattle.std.specs.Int.{w64, to_le_bytes}
use Rattle.std.proofs.lemmas.Bool.{cases_order}
use Rattle.machine_layout.proofs.PageFieldLaws.{length-le_bytes}
use Rattle.machine_layout.proofs.StoreLaws.{over_apart}
use Rattle.machine_layout.specs.Memory.{over, le_number, le_bytes}
use Rattle.ept_emit.specs.Entries.{word_at}

-- std's bytes of a word are these
pub same_bytes : (v : ℕ) → to_le_bytes w64 v ≡ le_bytes 8 v
same_bytes v =
    let a1 : v / 256 ^ 1 % 256 ≡ v / 256 % 256 = omega arith in
    let a2 : v / 256 ^ 2 % 256 ≡ v / 256 / 256 % 256 = omega arith in
    let a3 : v / 256 ^ 3 % 256 ≡ v / 256 / 256 / 256 % 256 = omega arith in
    let a4 : v / 256 ^ 4 % 256 ≡ v / 256 / 256 / 256 / 256 % 256 = omega arith in
    let a5 : v / 256 ^ 5 % 256 ≡ v / 256 / 256 / 256 / 256 / 256 % 256 = omega arith in
    let a6 : v / 256 ^ 6 % 256 ≡ v / 256 / 256 / 256 / 256 / 256 / 256 % 256 = omega arith in
    let a7 : v / 256 ^ 7 % 256 ≡ v / 256 / 256 / 256 / 256 / 256 / 256 / 256 % 256 = omega arith in
    rw (a1, a2, a3, a4, a5, a6, a7) refl

word_other_of : (xs : List ℕ) (j n v i : ℕ) → n ≡ 8 → i ≢ j → le_number (take n (drop (8 * i) (over xs (8 * j) (le_bytes n v)))) ≡ le_number (take n (drop (8 * i) xs))
word_other_of xs j n v i e ne =
    let len = length-le_bytes n v in
    elim (cases_order i j) [
      | inl same ↦ absurd (ne same)
      | inr (inl lt) ↦ ap le_number (over_apart xs (8 * j) (le_bytes n v) (8 * i) n (inl (omega arith)))
      | inr (inr gt) ↦ ap le_number (over_apart xs (8 * j) (le_bytes n v) (8 * i) n (inr (omega (arith, len))))
    ]

pub word_other : (xs : List ℕ) (j v i : ℕ) → i ≢ j → word_at (over xs (8 * j) (le_bytes 8 v)) i ≡ word_at xs i
word_other xs j v i ne = word_other_of xs j 8 v i refl ne

-- zeros spell 0
abbrev zeros : ℕ → List ℕ
zeros n = replicate n 0

drop_zeros : (n k : ℕ) → drop k (zeros n) ≡ zeros (n - k)
drop_zeros n zero = let e : n - 0 ≡ n = omega arith in rw e refl
drop_zeros zero (suc k) = let e : 0 - suc k ≡ 0 = omega arith in rw e refl
drop_zeros (suc n) (suc k) = let e : suc n - suc k ≡ n - k = omega arith in rw e (drop_zeros n k)

take_zeros : (n k : ℕ) → le_number (take k (zeros n)) ≡ 0
take_zeros n zero = refl
take_zeros zero (suc k) = refl
take_zeros (suc n) (suc k) = let ih = take_zeros n k in omega arith

pub zero_word : (n j : ℕ) → word_at (replicate n 0) j ≡ 0
zero_word n j = ap (λ xs. le_number (take 8 xs)) (drop_zeros n (8 * j)) ∙ take_zeros (n - 8 * j) 8
