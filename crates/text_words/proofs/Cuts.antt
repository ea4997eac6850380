-- A text and its parts between such bytes.
use Rattle.std.proofs.Common.{◌≡◌, ℕ, ◌+◌, ◌<◌, ◌≤◌, Bool, cond, ltb, List, [], ◌∷◌, length, take, drop, Some, None, position, refl, ap, ◌∙◌, arith}
use Rattle.std.specs.Prelude.{◌==◌}
use Rattle.std.specs.List.{position_or_len}
use Rattle.std.proofs.lemmas.Bool.Decides.{nat_tests}
use Rattle.std.proofs.lemmas.List.Splits.{slice_split_first, slice_split_none, length-slice_split}
use Rattle.std.proofs.lemmas.List.Sums.{fails_before_first, length-filter}
use Rattle.text_words.specs.Parts.{lines_of, parts_of, without_empty_end}

-- ---- cut at the first such byte

is_position : (a n at : ℕ) → cond (ltb a n) (Some a) None ≡ Some at → at ≡ a
is_position a n at h = grind (arith, nat_tests)

is_within : (a n at : ℕ) → cond (ltb a n) (Some a) None ≡ Some at → a < n
is_within a n at h = grind (arith, nat_tests)

pub is_none : (a n : ℕ) → cond (ltb a n) (Some a) None ≡ None → n ≤ a
is_none a n h = grind (arith, nat_tests)

pub parts_at : (byte : ℕ) (text : List ℕ) (at : ℕ) → position (λ c. c == byte) text ≡ Some at → parts_of byte text ≡ take at text ∷ parts_of byte (drop (at + 1) text)
parts_at byte text at h =
    let p : ℕ → Bool = λ c. c == byte in
    let e = is_position (position_or_len p text) (length text) at h in
    rw e (slice_split_first p text 0 (is_within (position_or_len p text) (length text) at h))

pub parts_none : (byte : ℕ) (text : List ℕ) → position (λ c. c == byte) text ≡ None → parts_of byte text ≡ text ∷ []
parts_none byte text h =
    let p : ℕ → Bool = λ c. c == byte in
    let past = is_none (position_or_len p text) (length text) h in
    slice_split_none p text (λ k d l. fails_before_first p text k d (omega arith))

pub ruleset cuts = (parts_at, parts_none)

-- ---- lines

pub more_parts : (line : List ℕ) (parts : List (List ℕ)) → 0 < length parts → without_empty_end (line ∷ parts) ≡ line ∷ without_empty_end parts
more_parts line [] h = absurd (omega arith)
more_parts line (part ∷ parts) h = refl

some_part : (byte : ℕ) (text : List ℕ) → 0 < length (parts_of byte text)
some_part byte text = omega (arith, length-slice_split (λ c. c == byte) text)

pub lines_then : (text line behind : List ℕ) → parts_of 10 text ≡ line ∷ parts_of 10 behind → lines_of text ≡ line ∷ lines_of behind
unfolding lines_of
lines_then text line behind h = ap without_empty_end h ∙ more_parts line (parts_of 10 behind) (some_part 10 behind)

last_part : (line : List ℕ) → 0 < length line → without_empty_end (line ∷ []) ≡ line ∷ []
last_part [] h = absurd (omega arith)
last_part (c ∷ line) h = grind (arith, nat_tests)

pub lines_end : (text line : List ℕ) → 0 < length text → parts_of 10 text ≡ line ∷ [] → line ≡ text → lines_of text ≡ line ∷ lines_of []
unfolding lines_of
lines_end text line some h e = ap without_empty_end h ∙ last_part line (rw e some)

pub no_lines : (text : List ℕ) → length text ≡ 0 → lines_of text ≡ []
unfolding lines_of
no_lines [] h = refl
no_lines (c ∷ text) h = absurd (omega arith)

pub ruleset first_lines = (lines_then, lines_end)

pub ruleset counts = (length-slice_split, length-filter)
