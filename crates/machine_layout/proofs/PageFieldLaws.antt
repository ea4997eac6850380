-- Laws of fields.
use Rattle.std.proofs.Common.{◌≡◌, ◌∙◌, ap, sym, refl, ℕ, zero, suc, ◌+◌, ◌-◌, ◌/◌, ◌%◌, ◌^◌, ◌<◌, ◌≤◌, List, [], ◌∷◌, ◌++◌, length, get_or, take, drop, replicate, arith, Fits, w8, w64, append_assoc, length-append, pow-suc, take_all, length-take-le, length-drop, length-take, get_or-take, get_or-drop, subst, inl, inr}
use Rattle.std.specs.Int.{from_le_bytes, bytes_low_first, byte_at}
use Rattle.std.proofs.lemmas.Bool.{cases_lt}
use Rattle.std.proofs.lemmas.List.{get_or_past}
use Rattle.std.proofs.lemmas.Nat.{le_bytes_8}
use Rattle.std.proofs.Math.Nat.{div-div-eq-div-mul, div-one}
use Rattle.machine_layout.specs.Memory.{over, le_number, le_bytes}
use Rattle.machine_layout.specs.PageFields.{number_at, padded}

-- ---- bytes over others

over-append : (front rest bs : List ℕ) → over (front ++ rest) (length front) bs ≡ front ++ over rest 0 bs
over-append [] rest bs = refl
over-append (x ∷ front) rest bs = ap (λ ys. x ∷ ys) (over-append front rest bs)

over_zeros : (n : ℕ) (bs : List ℕ) → length bs ≤ n → over (replicate n 0) 0 bs ≡ bs ++ replicate (n - length bs) 0
over_zeros zero [] h = refl
over_zeros zero (b ∷ bs) h = absurd (omega arith)
over_zeros (suc n) [] h = let e : suc n - 0 ≡ suc n = omega arith in ap (λ k. replicate k 0) (sym e)
over_zeros (suc n) (b ∷ bs) h = let e : suc n - suc (length bs) ≡ n - length bs = omega arith in rw e (ap (λ ys. b ∷ ys) (over_zeros n bs (omega arith)))

-- bytes put behind those that are there
pub over_padded : (size : ℕ) (front bs : List ℕ) (at : ℕ) → at ≡ length front → length front + length bs ≤ size → over (padded size front) at bs ≡ padded size (front ++ bs)
unfolding padded
over_padded size front bs at e h =
    let left : size - length front - length bs ≡ size - length (front ++ bs) = omega (arith, length-append front bs) in
    rw e (over-append front _ bs ∙ (ap (λ ys. front ++ ys) (over_zeros (size - length front) bs (omega arith)) ∙ (sym (append_assoc front bs _) ∙ ap (λ k. (front ++ bs) ++ replicate k 0) left)))

pub padded_none : (size : ℕ) → replicate size 0 ≡ padded size []
unfolding padded
padded_none size = let e : size - 0 ≡ size = omega arith in ap (λ k. replicate k 0) (sym e)

-- ---- numbers and their bytes

pub length-le_bytes : (n v : ℕ) → length (le_bytes n v) ≡ n
length-le_bytes zero v = refl
length-le_bytes (suc n) v = ap suc (length-le_bytes n (v / 256))

-- the bytes of a number spell it
pub number_of_bytes : (n v : ℕ) → v < 256 ^ n → le_number (le_bytes n v) ≡ v
number_of_bytes zero v h = omega arith
number_of_bytes (suc n) v h =
    let below : v / 256 < 256 ^ n = omega (arith, pow-suc 256 n) in
    let rest = number_of_bytes n (v / 256) below in
    omega (arith, rest)

byte_is : (i v : ℕ) → byte_at i v ≡ v / 256 ^ i % 256
byte_is zero v = ap (λ k. k % 256) (sym (div-one v))
byte_is (suc i) v = refl

bytes_from : (n i v : ℕ) → bytes_low_first i n v ≡ le_bytes n (v / 256 ^ i)
bytes_from zero i v = refl
bytes_from (suc n) i v =
    let next : v / 256 ^ i / 256 ≡ v / 256 ^ suc i = div-div-eq-div-mul v (256 ^ i) 256 ∙ ap (λ k. v / k) (sym (pow-suc 256 i)) in
    rw (byte_is i v) (ap (λ ys. v / 256 ^ i % 256 ∷ ys) (bytes_from n (suc i) v ∙ ap (λ k. le_bytes n k) (sym next)))

-- as std spells a number
pub spelt : (n v : ℕ) → bytes_low_first 0 n v ≡ le_bytes n v
spelt n v = bytes_from n 0 v ∙ ap (λ k. le_bytes n k) (div-one v)

-- each byte of a part is one of the whole, or 0 behind it
part_fits : (page : List ℕ) (at n i : ℕ) → ((k : ℕ) → Fits w8 (get_or page k 0)) → get_or (take n (drop at page)) i 0 < 256
part_fits page at n i fits =
    elim (cases_lt i n) [
      | inl l ↦ rw (get_or-take n (drop at page) i 0 l, get_or-drop at page i 0) (let f = fits (at + i) in omega (arith, f))
      | inr l ↦
          let short : length (take n (drop at page)) ≤ i = omega (arith, length-take n (drop at page)) in
          rw (get_or_past (take n (drop at page)) i 0 short) (omega arith)
    ]

-- as std reads a word
pub word_is : (page bs : List ℕ) (at n r : ℕ) → n ≡ 8 → at + n ≤ length page → bs ≡ take n (take (at + n - at) (drop at page)) → ((k : ℕ) → Fits w8 (get_or page k 0)) → r < 2 ^ 64 → r ≡ from_le_bytes w64 bs → r ≡ number_at page at n
unfolding number_at
word_is page bs at n r e room cut fits small read =
    let same : at + n - at ≡ n = omega arith in
    let left : n ≤ length (drop at page) = omega (arith, length-drop at page) in
    let part : take n (drop at page) ≡ bs = sym (cut ∙ (ap (λ k. take n (take k (drop at page))) same ∙ take_all n (take n (drop at page)) (omega (arith, length-take-le n (drop at page) left)))) in
    let long : length bs ≡ 8 = ap length (sym part) ∙ (length-take-le n (drop at page) left ∙ e) in
    let bytes : le_bytes 8 r ≡ bs = sym (spelt 8 r) ∙ le_bytes_8 bs r long (λ i. subst (λ (ys : List ℕ). get_or ys i 0 < 256) part (part_fits page at n i fits)) read in
    sym (ap le_number (part ∙ sym bytes) ∙ number_of_bytes 8 r small)
