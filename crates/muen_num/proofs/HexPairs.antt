-- Bytes in two hexadecimal digits each.
use Rattle.std.proofs.Common.{◌≡◌, ℕ, zero, suc, ◌+◌, ◌-◌, ◌*◌, ◌/◌, ◌%◌, ◌<◌, Bool, true, ◌&&◌, T, eqb, List, [], ◌∷◌, ◌++◌, length, get_or, take, slice_index, slice_set, refl, ap, sym, ◌∙◌, inl, inr, arith, eq-zero-or-pos, eqb→eq, append_assoc}
use Rattle.std.proofs.lemmas.List.{take_more}
use Rattle.hex.proofs.Pairs.{take-two_writes}
use lib.Ieee.Fits.{and_l, and_r}
use Rattle.hex.specs.Hex.{encode_with, encode_lower, lower_digits}
use Rattle.muen_num.specs.declared.digits.TheConstants.{PAIRS}

-- the digits of each byte below n stand at its place in the table
abbrev are_pairs : ℕ → Bool
are_pairs zero = true
are_pairs (suc b) =
    (eqb (get_or PAIRS (b * 2) 0) (slice_index lower_digits (b / 16)) && eqb (get_or PAIRS (b * 2 + 1) 0) (slice_index lower_digits (b % 16))) && are_pairs b

below : (n b : ℕ) → T (are_pairs n) → b < n → (get_or PAIRS (b * 2) 0 ≡ slice_index lower_digits (b / 16)) × (get_or PAIRS (b * 2 + 1) 0 ≡ slice_index lower_digits (b % 16))
below zero b t h = absurd (omega arith)
below (suc n) b t h =
    elim (eq-zero-or-pos (n - b)) [
      | inl z ↦ let e : b ≡ n = omega arith in let a = and_l _ (are_pairs n) t in rw e (eqb→eq _ _ (and_l _ _ a), eqb→eq _ _ (and_r _ _ a))
      | inr g ↦ below n b (and_r _ (are_pairs n) t) (omega arith)
    ]

PAIRS_at : (b : ℕ) → b < 256 → (get_or PAIRS (b * 2) 0 ≡ slice_index lower_digits (b / 16)) × (get_or PAIRS (b * 2 + 1) 0 ≡ slice_index lower_digits (b % 16))
PAIRS_at b h = below 256 b tt h

-- a byte's two digits
encode_byte : (b : ℕ) → encode_lower (b ∷ []) ≡ slice_index lower_digits (b / 16) ∷ slice_index lower_digits (b % 16) ∷ []
unfolding encode_with
encode_byte b = refl

-- its two digits are written; f is the byte as an index
pub pair_written : (out : List ℕ) (at b f : ℕ) → b < 256 → f ≡ b → at + 1 < length out → take (at + 2) (slice_set (slice_set out at (get_or PAIRS (f * 2) 0)) (at + 1) (get_or PAIRS (f * 2 + 1) 0)) ≡ take at out ++ encode_lower (b ∷ [])
pair_written out at b f h is fits =
    let p = PAIRS_at b h in
    rw (is, p.0, p.1) (take-two_writes out at _ _ fits ∙ ap (λ (x : List ℕ). take at out ++ x) (sym (encode_byte b)))

pub encode_none : encode_lower [] ≡ []
unfolding encode_with
encode_none = refl

-- one byte after others
encode_with-push : (t xs : List ℕ) (b : ℕ) → encode_with t (xs ++ b ∷ []) ≡ encode_with t xs ++ encode_with t (b ∷ [])
unfolding encode_with
encode_with-push t [] b = refl
encode_with-push t (x ∷ xs) b = ap (λ (r : List ℕ). slice_index t (x / 16) ∷ slice_index t (x % 16) ∷ r) (encode_with-push t xs b)

-- one byte more of a list
encode_more : (xs : List ℕ) (i : ℕ) → i < length xs → encode_lower (take (i + 1) xs) ≡ encode_lower (take i xs) ++ encode_lower (get_or xs i 0 ∷ [])
encode_more xs i h = ap encode_lower (take_more xs i 0 h) ∙ encode_with-push lower_digits (take i xs) (get_or xs i 0)

-- one byte more is written
pub one_more : (front a z bytes : List ℕ) (i : ℕ) → i < length bytes → a ≡ front ++ encode_lower (take i bytes) → z ≡ a ++ encode_lower (get_or bytes i 0 ∷ []) → z ≡ front ++ encode_lower (take (i + 1) bytes)
one_more front a z bytes i h p q =
    q ∙ ap (λ (x : List ℕ). x ++ encode_lower (get_or bytes i 0 ∷ [])) p ∙ append_assoc front (encode_lower (take i bytes)) (encode_lower (get_or bytes i 0 ∷ [])) ∙ ap (λ (x : List ℕ). front ++ x) (sym (encode_more bytes i h))
