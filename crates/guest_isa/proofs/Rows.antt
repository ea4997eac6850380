-- The table of instructions: the code's is the definition's, and a row stands at its number.
use Rattle.std.proofs.Common.{◌≡◌, ◌∙◌, ℕ, zero, suc, ◌+◌, ◌<◌, ◌≤◌, ◌==◌, Bool, true, false, List, [], ◌∷◌, Option, Some, None, option_map, cond, length, map, slice_get, refl, ap, sym, arith}
use Rattle.std.specs.Prelude.{◌&&◌, nat_le, nat_lt}
use Rattle.std.specs.List.{find}
use Rattle.std.specs.Str.{bytes_eq}
use Rattle.std.proofs.lemmas.Bool.{and_parts, eqb-true, leb-true, ltb-true}
use Rattle.std.proofs.lemmas.Option.{same_Some, slice_get-map}
use Rattle.guest_isa.specs.declared.opcode.Opcode.{Opcode}
use Rattle.guest_isa.specs.declared.opcode.Opcode.TheVariants.{Nop}
use Rattle.guest_isa.specs.declared.opcode.Row.{Row as CodeRow}
use Rattle.guest_isa.specs.GuestIsa.{AreRows, Row, number_of, opcode_at, opcode_with, row_of, row_shown, table, word_of}

-- ---- the code's table

pub at_number : (rows : List CodeRow) (n : ℕ) → AreRows rows → option_map (λ (r : CodeRow). r.opcode) (slice_get rows n) ≡ opcode_at n
at_number rows n e = among (slice_get rows n) ∙ ap (option_map (λ (r : Row). r.opcode)) (sym (slice_get-map row_shown rows n) ∙ ap (λ (rs : List Row). slice_get rs n) e)
  where
    among : (o : Option CodeRow) → option_map (λ (r : CodeRow). r.opcode) o ≡ option_map (λ (r : Row). r.opcode) (option_map row_shown o)
    among None = refl
    among (Some r) = refl

word_among : (word : List ℕ) (rows : List CodeRow) → option_map (λ (r : CodeRow). r.opcode) (find (λ r. bytes_eq r.word.now word) rows)
    ≡ option_map (λ (r : Row). r.opcode) (find (λ r. bytes_eq r.word word) (map row_shown rows))
word_among word [] = refl
word_among word (r ∷ rs) =
    elim (bytes_eq r.word.now word) as (λ b. option_map (λ (r : CodeRow). r.opcode) (cond b (Some r) (find (λ r. bytes_eq r.word.now word) rs))
    ≡ option_map (λ (r : Row). r.opcode) (cond b (Some (row_shown r)) (find (λ r. bytes_eq r.word word) (map row_shown rs)))) [
      | true ↦ refl
      | false ↦ word_among word rs
    ]

pub with_word : (rows : List CodeRow) (word : List ℕ) → AreRows rows → option_map (λ (r : CodeRow). r.opcode) (find (λ r. bytes_eq r.word.now word) rows) ≡ opcode_with word
with_word rows word e =
    word_among word rows ∙ ap (λ (rs : List Row). option_map (λ (r : Row). r.opcode) (find (λ r. bytes_eq r.word word) rs)) e

-- ---- opcodes and numbers

-- what each row passes
record IsRow (o : Opcode) : Type 0 where
  back : opcode_at (number_of o) ≡ Some o
  low : nat_lt (number_of o) 256 ≡ true
  short : nat_le (length (word_of o)) 6 ≡ true

row_is : (o : Opcode) → IsRow o
unfolding row_of
row_is Nop = record { back = refl; low = refl; short = refl }
row_is _ = record { back = refl; low = refl; short = refl }

pub opcode_back : (o : Opcode) → opcode_at (number_of o) ≡ Some o
opcode_back o = (row_is o).back

pub number_low : (o : Opcode) → number_of o < 256
number_low o = ltb-true (number_of o) 256 (row_is o).low

pub word_short : (o : Opcode) → length (word_of o) ≤ 6
word_short o = leb-true (length (word_of o)) 6 (row_is o).short

-- from this number on
are_numbered : ℕ → List Row → Bool
are_numbered n [] = true
are_numbered n (r ∷ rs) = (number_of r.opcode == n) && are_numbered (suc n) rs

all_numbered : are_numbered 0 table ≡ true
unfolding row_of are_numbered
all_numbered = refl

number_among : (rs : List Row) (n k : ℕ) (o : Opcode) → are_numbered n rs ≡ true → option_map (λ (r : Row). r.opcode) (slice_get rs k) ≡ Some o → number_of o ≡ n + k
unfolding are_numbered
number_among [] n k o h e = cc
number_among (r ∷ rs) n zero o h e =
    let own : number_of r.opcode ≡ n = eqb-true (number_of r.opcode) n (and_parts _ (are_numbered (suc n) rs) h).0 in
    let same : r.opcode ≡ o = same_Some r.opcode o e in
    let moved : number_of o ≡ n = rw same at own in
    omega (arith, moved)
number_among (r ∷ rs) n (suc k) o h e =
    let rest = number_among rs (suc n) k o (and_parts (number_of r.opcode == n) _ h).1 e in
    omega (arith, rest)

pub number_back : (n : ℕ) (o : Opcode) → opcode_at n ≡ Some o → number_of o ≡ n
number_back n o e = let same = number_among table 0 n o all_numbered e in omega (arith, same)
